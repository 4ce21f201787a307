use Rattle.std.proofs.Common.{take}
use Rattle.ad_protect.specs.Spreading.{listed, IsTableOf}
use Rattle.ad_protect.proofs.primary.table_of.Given as goal

-- the table of those so far
abbrev pub invariant-loop-number : goal.invariant-loop-number
invariant-loop-number l = IsTableOf l.dir (take l.number-index l.numbers) (listed l.table)
