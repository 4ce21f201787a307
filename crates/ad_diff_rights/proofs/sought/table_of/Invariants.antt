use Rattle.std.proofs.Common.{take}
use Rattle.ad_diff_rights.specs.Steps.{texts, IsTableOf}
use Rattle.ad_diff_rights.proofs.sought.table_of.Given as goal

-- those so far
abbrev pub invariant-loop-label : goal.invariant-loop-label
invariant-loop-label l = IsTableOf (texts (take l.label-index l.labels)) l.table
