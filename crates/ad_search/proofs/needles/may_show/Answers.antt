use Rattle.std.proofs.Common.{◌≡◌, false, List, map, ap, ◌∙◌, sym, subst}
use Rattle.ad_schema.specs.declared.line.SchemaRecord.{SchemaRecord}
use Rattle.ad_schema.specs.declared.info.AttrId.{AttrId}
use Rattle.ad_dir.proofs.NameLaws.{class_within}
use Rattle.ad_dir_objects.specs.declared.object.Stored.{Stored as StoredIn}
use Rattle.ad_dir_objects.specs.Seen.{held_seen, object_seen, stored_seen}
use Rattle.ad_dir_model.specs.Object.{stored_in}
use Rattle.ad_dir_model.specs.Objects.{sd_at}
use Rattle.ad_dir_model.specs.Shown.{is_naming}
use Rattle.std.specs.List.{list_any}
use Rattle.ad_dir.specs.Values.{may_have}
use Rattle.ad_search.proofs.NeedleLaws.{shows_no_key, any_map}
use Rattle.ad_search.proofs.needles.may_show.Goals as goal

pub is_naming-requires : goal.is_naming-requires
is_naming-requires c = class_within c.args.dir.now c.schema.result.now c.args.number c.live_object-object.result.now
    c.invariants.ensures c.requires.live c.schema.ensures c.live_object-object.ensures

pub returns : goal.returns
returns c = λ never ordinary.
    let attr = c.args.needle.now.attr.0 in
    let key = c.args.needle.now.value.key in
    let o = c.live_object-object.result.now in
    shows_no_key c.args.dir.now c.args.number attr key (object_seen o (sd_at c.args.dir.now.objects c.args.number))
    (sym c.live_object-object.ensures) ordinary
    (subst (λ (s : List SchemaRecord). is_naming s o.class.0 attr ≡ false) c.schema.ensures
    (sym c.is_naming.ensures ∙ c.if-is_naming.false))
    (ap (list_any (may_have key)) (sym (c.stored_of-stored.ensures
    ∙ ap (λ (values : List (AttrId × List StoredIn)). stored_in (map held_seen values) attr) c.as_slice-values.ensures))
    ∙ sym (any_map stored_seen (may_have key) c.stored_of-stored.result.now) ∙ sym c.any_may.ensures ∙ never)
