use Rattle.std.proofs.Common.{◌-◌, length}
use Rattle.ad_protect.specs.Spreading.{IsSpreading}
use Rattle.ad_protect.proofs.spread.spread.Given as goal

-- the groups so far have all their members in the set
abbrev pub invariant-groups : goal.invariant-groups
invariant-groups l = IsSpreading l.dir l.done l.taken.keys

abbrev pub decreases-groups : goal.decreases-groups
decreases-groups l = length l.dir.objects - l.done
