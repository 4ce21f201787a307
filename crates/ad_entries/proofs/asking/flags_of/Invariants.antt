use Rattle.ad_entries.proofs.AskedLaws.{SoFar}
use Rattle.ad_entries.proofs.asking.flags_of.Given as goal

-- what the names so far ask for is flagged
abbrev pub invariant-loop-asked : goal.invariant-loop-asked
invariant-loop-asked l = SoFar l.schema l.sent l.flags.items l.named.items l.asked-index
