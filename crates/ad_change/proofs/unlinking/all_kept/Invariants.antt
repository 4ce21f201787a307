use Rattle.std.proofs.Common.{◌≡◌, ◌++◌, drop, map}
use Rattle.std.specs.Prelude.{filter_map}
use Rattle.ad_dir_objects.specs.Seen.{held_seen}
use Rattle.ad_dir_model.specs.Changes.{goes_with, unlinked_held}
use Rattle.ad_change.proofs.unlinking.all_kept.Given as goal

-- what is kept so far and of those that are left is all that is kept
abbrev pub invariant-each : goal.invariant-each
invariant-each l =
    map held_seen l.all ++ filter_map (unlinked_held (goes_with l.dir l.target))
    (map held_seen (drop l.held-index l.values))
    ≡ filter_map (unlinked_held (goes_with l.dir l.target)) (map held_seen l.values)
