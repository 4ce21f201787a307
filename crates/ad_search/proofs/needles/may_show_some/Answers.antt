use Rattle.std.proofs.Common.{◌≡◌, false, List, map, ap, ◌∙◌, sym, subst}
use Rattle.ad_schema.specs.declared.line.SchemaRecord.{SchemaRecord}
use Rattle.ad_schema.specs.declared.info.AttrId.{AttrId}
use Rattle.ad_dir.proofs.NameLaws.{class_within}
use Rattle.ad_dir_objects.specs.declared.object.Stored.{Stored as StoredIn}
use Rattle.ad_dir_objects.specs.Seen.{held_seen, object_seen, stored_seen}
use Rattle.ad_dir_model.specs.Object.{stored_in}
use Rattle.ad_dir_model.specs.Objects.{sd_at}
use Rattle.ad_dir_model.specs.Shown.{is_naming}
use Rattle.ad_search.proofs.NeedleLaws.{shows_nothing}
use Rattle.ad_search.proofs.needles.may_show_some.Goals as goal

pub is_naming-requires : goal.is_naming-requires
is_naming-requires c = class_within c.args.dir.now c.schema.result.now c.args.number c.live_object-object.result.now
    c.invariants.ensures c.requires.live c.schema.ensures c.live_object-object.ensures

pub returns : goal.returns
returns c = λ none ordinary.
    let attr = c.args.attr.0 in
    let o = c.live_object-object.result.now in
    shows_nothing c.args.dir.now c.args.number attr (object_seen o (sd_at c.args.dir.now.objects c.args.number))
    (sym c.live_object-object.ensures) ordinary
    (subst (λ (s : List SchemaRecord). is_naming s o.class.0 attr ≡ false) c.schema.ensures
    (sym c.is_naming.ensures ∙ c.if-is_naming.false))
    (sym (c.stored_of.ensures
    ∙ ap (λ (values : List (AttrId × List StoredIn)). stored_in (map held_seen values) attr) c.as_slice-values.ensures)
    ∙ c.is_some.ensures none)
