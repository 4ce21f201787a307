use Rattle.std.proofs.Common.{◌≡◌, ◌++◌, drop, map}
use Rattle.std.specs.List.{filter}
use Rattle.ad_dir_objects.specs.Seen.{stored_seen}
use Rattle.ad_dir_model.specs.Changes.{goes_with, stays_linked}
use Rattle.ad_change.proofs.unlinking.values_left.Given as goal

-- what is kept so far and of those that are left is all that is kept
abbrev pub invariant-each : goal.invariant-each
invariant-each l =
    map stored_seen l.kept ++ filter (stays_linked (goes_with l.dir l.target))
    (map stored_seen (drop l.value-index l.stored))
    ≡ filter (stays_linked (goes_with l.dir l.target)) (map stored_seen l.stored)
