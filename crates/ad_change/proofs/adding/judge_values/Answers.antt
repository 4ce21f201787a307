use Rattle.std.proofs.Common.{◌∷◌, ◌++◌, [], List, ℕ, map, refl, sym, subst, ap, ◌∙◌}
use Rattle.std.specs.List.{flat_map, AllByRecursion}
use Rattle.std.proofs.lemmas.List.{map-append, drop_all}
use Rattle.std.proofs.lemmas.Result.{err_from_is_err_and}
use Rattle.ad_bytes.specs.Reading.{IsBytes}
use Rattle.ad_dir_objects.specs.Seen.{held_seen}
use Rattle.ad_dir_model.specs.Object.{Stored}
use Rattle.ad_needs_rules.specs.Checks.{first_failing}
use Rattle.ad_change_values.specs.Values.{all_stored}
use Rattle.ad_change.specs.Adding.{attr_checks}
use Rattle.ad_change.specs.Creating.{HasByteAttr, all_read}
use Rattle.ad_change.proofs.AddLaws.{each_more, each_stops, each_done}
use Rattle.ad_change_values.proofs.SentLaws.{stops, cut}
use Rattle.ad_change.proofs.Steps.{goes_on, comes_to_end}
use Rattle.ad_change.proofs.adding.judge_values.Goals as goal

pub returns-in_err-stored : goal.returns-in_err-stored
returns-in_err-stored c =
    let p = err_from_is_err_and c.from_residual.result c.from_residual.ensures.1 in
    let dir = c.args.dir.now in
    let x = c.attr-item.result in
    rw (p.1, p.2) (stops (attr_checks dir (x.0, c.as_slice.result.now)) (flat_map (attr_checks dir) c.args.values.now)
    c.in_err-stored.field-0.0
    (λ r is. sym c.each.invariant.0 ∙ each_stops (attr_checks dir) c.args.values.now c.each.attr-index x r
    c.each-test.true c.attr-item.is
    (ap (λ (s : List (List ℕ)). first_failing (attr_checks dir (x.0, s))) (sym c.as_slice.ensures) ∙ is))
    c.in_err-stored.ensures)

pub each-preserved : goal.each-preserved
each-preserved c =
    let dir = c.args.dir.now in
    let x = c.attr-item.result in
    let values = c.args.values.now in (
      each_more (attr_checks dir) values c.each.attr-index x c.each-test.true c.attr-item.is
          (ap (λ (s : List (List ℕ)). first_failing (attr_checks dir (x.0, s))) (sym c.as_slice.ensures)
          ∙ c.in_ok-stored.ensures.0) ∙ c.each.invariant.0,
      goes_on (all_read dir) (λ y ys. refl) values c.each.attr-index x (map held_seen c.each.held.items)
          (map held_seen c.push_held.new.held.items)
          (all_read dir values) c.each-test.true c.attr-item.is
          (ap (map held_seen) c.in_ok-push_held.ensures ∙ map-append held_seen c.each.held.items
          ((x.0, c.in_ok-stored.stored) ∷ [])
          ∙ ap (λ (ss : List Stored). map held_seen c.each.held.items ++ record { attr = x.0.0; values = ss } ∷ [])
          (c.in_ok-stored.ensures.1.0 ∙ ap (all_stored dir x.0.0) c.as_slice.ensures))
          c.each.invariant.1,
      λ others. c.each.invariant.2 (subst (AllByRecursion HasByteAttr)
          (sym (cut values c.each.attr-index x c.each-test.true c.attr-item.is))
          (subst (AllByRecursion IsBytes) c.as_slice.ensures c.in_ok-stored.ensures.1.1, others)),
    )

pub returns : goal.returns
returns c =
    let dir = c.args.dir.now in
    let values = c.args.values.now in (
      sym c.each.invariant.0 ∙ each_done (attr_checks dir) values c.each.attr-index c.each-test.false,
      (
        comes_to_end (all_read dir) refl values c.each.attr-index (map held_seen c.each.held.items)
            (all_read dir values) c.each-test.false c.each.invariant.1,
        c.each.invariant.2 (subst (AllByRecursion HasByteAttr)
            (sym (drop_all c.each.attr-index values c.each-test.false)) tt),
      ),
    )
