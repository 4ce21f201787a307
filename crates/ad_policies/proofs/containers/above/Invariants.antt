use Rattle.std.proofs.Common.{◌≡◌, ◌++◌}
use Rattle.ad_policies.specs.Policies.{above_within, above}
use Rattle.ad_policies.proofs.containers.above.Given as goal

-- those so far, and those above the last
abbrev pub invariant-up : goal.invariant-up
invariant-up l = l.containers.items ++ above_within l.dir l.left l.at ≡ above l.dir l.number

abbrev pub decreases-up : goal.decreases-up
decreases-up l = l.left
