use Rattle.sd_pool.specs.Slots.{AreUsedBelow}
use Rattle.sd_pool.proofs.parts.first_unused.Given as goal

-- the ids so far are used
abbrev pub invariant-loop-id : goal.invariant-loop-id
invariant-loop-id l = AreUsedBelow l.id l.slots
