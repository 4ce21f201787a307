use Rattle.std.proofs.Common.{take}
use Rattle.ad_principals.specs.Reaching.{Takes, IsOfOne}
use Rattle.ad_principals.proofs.taking.take_groups.Given as goal

-- those so far are taken
abbrev pub invariant-loop-group : goal.invariant-loop-group
invariant-loop-group l = Takes (IsOfOne l.dir (take l.group-index l.groups)) l.initial.taken.keys l.taken.keys
