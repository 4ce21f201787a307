use Rattle.std.proofs.Common.{take}
use Rattle.ad_causes.specs.Steps.{IsSetOf}
use Rattle.ad_causes.proofs.members.set_of.Given as goal

-- those so far
abbrev pub invariant-loop-number : goal.invariant-loop-number
invariant-loop-number l =
    IsSetOf (take l.number-index l.numbers) l.set
