use Rattle.std.proofs.Common.{◌≡◌, ◌++◌}
use Rattle.ad_change.specs.Removing.{from_depth}
use Rattle.ad_change.proofs.leaves.deepest_first.Given as goal

-- those so far and those that are less deep
abbrev pub invariant-each : goal.invariant-each
invariant-each l = l.going.items ++ from_depth l.left l.found ≡ from_depth 65 l.found

abbrev pub decreases-each : goal.decreases-each
decreases-each l = l.left
