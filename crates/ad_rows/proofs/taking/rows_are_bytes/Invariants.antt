use Rattle.std.proofs.Common.{take}
use Rattle.std.specs.Prelude.{All}
use Rattle.ad_rows.specs.Taking.{HasBytes}
use Rattle.ad_rows.proofs.taking.rows_are_bytes.Given as goal

abbrev pub invariant-loop-row : goal.invariant-loop-row
invariant-loop-row l = All HasBytes (take l.row-index l.rows)
