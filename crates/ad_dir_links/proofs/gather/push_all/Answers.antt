use Rattle.std.proofs.Common.{◌++◌, ap, ◌∙◌, map, List}
use Rattle.ad_dir_objects.specs.Seen.{held_seen}
use Rattle.ad_dir_objects.specs.declared.object.Stored.{Stored as StoredIn}
use Rattle.std.specs.Prelude.{filter_map, Bool}
use Rattle.ad_dir_objects.specs.Seen.{stored_seen}
use Rattle.ad_dir_links.specs.Marks.{tie, is_indexed, ties_in}
use Rattle.ad_dir_links.proofs.Ties.{ties_next}
use Rattle.ad_dir_links.proofs.gather.push_all.Goals as goal

pub each-preserved : goal.each-preserved
each-preserved c =
    let held = c.held-item.result in
    ties_next c.args.indexed.now c.each.all.items c.push_ties.new.all.items
    (c.args.all.now.items ++ ties_in c.args.indexed.now (map held_seen c.args.values.now)) c.args.values.now
    c.each.held-index held
    c.each-test.true c.held-item.is
    (c.in_ok-push_ties.ensures
    ∙ ap (λ (counts : Bool). c.each.all.items ++ filter_map (tie counts held.0.0)
    (map stored_seen c.as_slice.result.now)) c.is_indexed-counts.ensures
    ∙ ap (λ (vs : List StoredIn). c.each.all.items
    ++ filter_map (tie (is_indexed c.args.indexed.now held.0.0) held.0.0) (map stored_seen vs))
    c.as_slice.ensures)
    c.each.invariant
