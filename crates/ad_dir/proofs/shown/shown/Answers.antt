use Rattle.std.proofs.Common.{◌∙◌, List, map, sym, ap, subst}
use Rattle.ad_dir_model.specs.Object.{Object, stored_in}
use Rattle.ad_dir_model.specs.Objects.{object_at}
use Rattle.ad_dir_model.proofs.Finding.{of-live}
use Rattle.ad_schema.specs.declared.info.AttrId.{AttrId}
use Rattle.ad_dir_objects.specs.declared.object.Stored.{Stored as StoredIn}
use Rattle.ad_dir_objects.specs.Seen.{held_seen}
use Rattle.ad_dir.specs.Kept.{AreLive}
use Rattle.ad_dir.proofs.NameLaws.{if_ok, class_within}
use Rattle.ad_dir.proofs.ShownLaws.{stored_live, shows_classes, shows_name, shows_naming, shows_none, shows_stored}
use Rattle.ad_dir.proofs.shown.shown.Goals as goal

pub class_values-requires : goal.class_values-requires
class_values-requires c = class_within c.args.dir.now c.schema-schema.result.now c.args.number
    c.live_object-object.result.now c.invariants.ensures c.requires c.schema-schema.ensures c.live_object-object.ensures

pub is_naming-requires : goal.is_naming-requires
is_naming-requires c = class_within c.args.dir.now c.schema-schema.result.now c.args.number
    c.live_object-object.result.now c.invariants.ensures c.requires c.schema-schema.ensures c.live_object-object.ensures

pub returns-then-is_named : goal.returns-then-is_named
returns-then-is_named c =
    if_ok c.class_values.result
    (λ values is. is ∙ shows_classes c.args.dir.now c.args.number c.args.attr.0 c.schema-schema.result.now
    c.schema-schema.ensures c.syntax_of-syntax.result c.syntax_of-syntax.ensures
    c.live_object-object.result.now.class.0
    (ap (λ (o : Object). o.class) c.live_object-object.ensures) (sym c.is_named.ensures ∙ c.if-is_named.true))
    c.class_values.ensures

pub returns-then-is_named-2 : goal.returns-then-is_named-2
returns-then-is_named-2 c =
    if_ok c.named.result
    (λ values is. is
    ∙ shows_name c.args.dir.now c.args.number c.args.attr.0 c.schema-schema.result.now c.schema-schema.ensures
    c.syntax_of-syntax.result c.syntax_of-syntax.ensures (sym c.is_named.ensures ∙ c.if-is_named.false)
    (sym c.is_named-2.ensures ∙ c.if-is_named-2.true))
    c.named.ensures

pub returns-then-is_naming : goal.returns-then-is_naming
returns-then-is_naming c =
    if_ok c.one.result
    (λ values is. is
    ∙ shows_naming c.args.dir.now c.args.number c.args.attr.0 c.schema-schema.result.now c.schema-schema.ensures
    c.syntax_of-syntax.result c.syntax_of-syntax.ensures (sym c.is_named.ensures ∙ c.if-is_named.false)
    (sym c.is_named-2.ensures ∙ c.if-is_named-2.false)
    c.live_object-object.result.now.class.0 c.as_slice.result.now
    (ap (λ (o : Object). o.class) c.live_object-object.ensures)
    (c.as_slice.ensures ∙ ap (λ (o : Object). o.name) c.live_object-object.ensures)
    (sym c.is_naming.ensures ∙ c.if-is_naming.true))
    c.one.ensures

pub returns-then-is_back_link : goal.returns-then-is_back_link
returns-then-is_back_link c =
    c.new.ensures.items
    ∙ shows_none c.args.dir.now c.args.number c.args.attr.0 c.schema-schema.result.now c.schema-schema.ensures
    c.syntax_of-syntax.result c.syntax_of-syntax.ensures (sym c.is_named.ensures ∙ c.if-is_named.false)
    (sym c.is_named-2.ensures ∙ c.if-is_named-2.false)
    c.live_object-object.result.now.class.0 (ap (λ (o : Object). o.class) c.live_object-object.ensures)
    (sym c.is_naming.ensures ∙ c.if-is_naming.false) (sym c.is_back_link.ensures ∙ c.if-is_back_link.true)

pub stored_values-requires : goal.stored_values-requires
stored_values-requires c =
    let dir = c.args.dir.now in
    let o = object_at dir.objects c.args.number in
    subst (AreLive dir.objects) (sym (c.stored_of.ensures
    ∙ ap (λ (values : List (AttrId × List StoredIn)). stored_in (map held_seen values) c.args.attr.0)
    c.as_slice-2.ensures ∙ ap (λ (o : Object). stored_in o.values c.args.attr.0) c.live_object-object.ensures))
    (stored_live dir.objects o.values c.args.attr.0
    (c.invariants.ensures.links c.args.number o (of-live dir.objects c.args.number c.requires)))

pub returns : goal.returns
returns c =
    if_ok c.stored_values.result
    (λ values is. is
    ∙ shows_stored c.args.dir.now c.args.number c.args.attr.0 c.schema-schema.result.now c.schema-schema.ensures
    c.syntax_of-syntax.result c.syntax_of-syntax.ensures (sym c.is_named.ensures ∙ c.if-is_named.false)
    (sym c.is_named-2.ensures ∙ c.if-is_named-2.false)
    c.live_object-object.result.now.class.0 _ (ap (λ (o : Object). o.class) c.live_object-object.ensures)
    (c.stored_of.ensures ∙ ap (λ (values : List (AttrId × List StoredIn)). stored_in (map held_seen values)
    c.args.attr.0) c.as_slice-2.ensures ∙ ap (λ (o : Object). stored_in o.values c.args.attr.0)
    c.live_object-object.ensures) (sym c.is_naming.ensures ∙ c.if-is_naming.false)
    (sym c.is_back_link.ensures ∙ c.if-is_back_link.false))
    c.stored_values.ensures
