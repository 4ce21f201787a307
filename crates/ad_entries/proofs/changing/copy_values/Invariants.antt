use Rattle.std.proofs.Common.{◌≡◌, take}
use Rattle.ad_entries.proofs.changing.copy_values.Given as goal

-- those so far
abbrev pub invariant-loop-value : goal.invariant-loop-value
invariant-loop-value l = l.copy ≡ take l.value-index l.values
