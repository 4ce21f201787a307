use Rattle.std.proofs.Common.{◌≡◌, ◌==◌, Bool, false, List, map, sym, subst}
use Rattle.std.specs.List.{AllByRecursion}
use Rattle.std.proofs.lemmas.Bool.{ne_eqb}
use Rattle.ad_schema.specs.declared.info.AttrId.{AttrId}
use Rattle.ad_dir_objects.specs.declared.object.Stored.{Stored}
use Rattle.ad_dir_objects.specs.Seen.{held_seen, object_seen, objects_of}
use Rattle.ad_dir_model.specs.Object.{Object}
use Rattle.ad_rows_sound.specs.Parts.{AreLiveLinks, IsPlacedBy}
use Rattle.ad_rows_sound.proofs.Growing.{if_ok_map}
use Rattle.ad_rows_sound.proofs.soundness.stands.Goals as goal

pub returns-else-entry-eq1 : goal.returns-else-entry-eq1
returns-else-entry-eq1 c =
    let o : Object = object_seen c.args.entry.now.0 c.args.entry.now.1 in
    let other : (o.number == 1) ≡ false = ne_eqb o.number 1 c.if-entry-eq1.false in
    if_ok_map c.is_below.result _ _ (λ is both. (
      λ t. (
        subst (λ (values : List (AttrId × List Stored)). AllByRecursion
            (AreLiveLinks (objects_of c.args.objects.now)) (map held_seen values)) c.as_slice.ensures
            (c.has_live_links.ensures.0 c.if-not-has_live_links.false),
        subst
            (λ (b : Bool). IsPlacedBy b c.args.schema.now (objects_of c.args.objects.now) c.args.pending.now o)
            (sym other) (both.0 t),
      ),
      λ standing. both.1 (subst (λ (b : Bool). IsPlacedBy b c.args.schema.now (objects_of c.args.objects.now)
          c.args.pending.now o) other standing.1),
    )) c.is_below.ensures
