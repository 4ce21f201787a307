use Rattle.std.proofs.Common.{take}
use Rattle.ad_principals.specs.Membership.{IsTableOf}
use Rattle.ad_principals.proofs.members.table_of.Given as goal

-- the table of those so far
abbrev pub invariant-loop-number : goal.invariant-loop-number
invariant-loop-number l = IsTableOf l.dir (take l.number-index l.numbers) l.table
