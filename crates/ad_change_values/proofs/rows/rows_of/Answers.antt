use Rattle.std.proofs.Common.{◌≡◌, ◌∷◌, ◌++◌, List, length, map, sym, subst, ap, ◌∙◌, arith}
use Rattle.std.specs.Vec.Iter.{into_iter_items}
use Rattle.ad_schema.specs.declared.info.AttrId.{AttrId}
use Rattle.ad_dir_objects.specs.declared.object.Stored.{Stored as StoredIn}
use Rattle.ad_dir_objects.specs.Seen.{stored_seen, held_seen}
use Rattle.ad_dir_model.specs.Object.{Held}
use Rattle.ad_dir_model.specs.Changes.{with_values}
use Rattle.ad_dir_model.specs.Soundness.{AttrsRiseFrom}
use Rattle.ad_change_values.specs.ByAttr.{by_attr}
use Rattle.ad_change_values.proofs.RowLaws.{put_next}
use Rattle.ad_change_values.proofs.rows.rows_of.Goals as goal

pub loop-attr-preserved : goal.loop-attr-preserved
loop-attr-preserved c =
    let at = c.loop-attr in
    let old : List Held = by_attr at.rows.entries in
    let steps : into_iter_items at.attr-iterator ≡ (c.in-Some.attr, c.in-Some.stored)
    ∷ into_iter_items c.next.new.self = c.in-Some.ensures.steps.0 in
    record {
      both =
          put_next (map held_seen (into_iter_items c.into_iter-attr-iterator.result)) old
          (by_attr c.put_row.new.rows.entries)
          (c.in-Some.attr, c.in-Some.stored) (into_iter_items c.next.new.self)
          (subst (λ (hs : List (AttrId × List StoredIn)). AttrsRiseFrom 0 (map held_seen hs))
          (sym c.into_iter-attr-iterator.ensures.into_iter_gives.0) c.requires)
          (ap (λ (hs : List (AttrId × List StoredIn)). old ++ map held_seen hs) (sym steps) ∙ at.invariant.both)
          (c.in_ok-put_row.ensures ∙ ap (λ (vs : List StoredIn). with_values c.in-Some.attr.0 (map stored_seen vs)
          old) c.of.ensures);
      len = omega (arith, ap length steps, c.in-Some.ensures.steps.1, at.invariant.len);
    }
