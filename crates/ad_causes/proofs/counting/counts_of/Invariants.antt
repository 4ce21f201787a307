use Rattle.std.proofs.Common.{take}
use Rattle.ad_causes.specs.Extra.{texts}
use Rattle.ad_causes.specs.Counts.{AreCounts}
use Rattle.ad_causes.proofs.counting.counts_of.Given as goal

-- those so far
abbrev pub invariant-loop-text : goal.invariant-loop-text
invariant-loop-text l = AreCounts (texts (take l.text-index l.all)) l.table
