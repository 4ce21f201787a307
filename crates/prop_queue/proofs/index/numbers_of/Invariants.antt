use Rattle.std.proofs.Common.{take}
use Rattle.prop_queue.specs.Numbers.{AreKnown}
use Rattle.prop_queue.proofs.index.numbers_of.Given as goal

-- the entries so far have numbers
abbrev pub invariant-loop-offset : goal.invariant-loop-offset
invariant-loop-offset l = AreKnown l.numbers (take l.offset l.entries.items)
