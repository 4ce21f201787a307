use Rattle.std.proofs.Common.{◌-◌}
use Rattle.ad_principals.specs.Reaching.{IsReaching}
use Rattle.ad_principals.proofs.reaching.reached.Given as goal

-- the set has what the identifiers so far bring
abbrev pub invariant-groups : goal.invariant-groups
invariant-groups l = IsReaching l.dir l.user l.first l.done l.set.keys

abbrev pub decreases-groups : goal.decreases-groups
decreases-groups l = 1025 - l.done
