use Rattle.std.proofs.Common.{◌≡◌, take}
use Rattle.row_store.proofs.written.written.Given as goal

abbrev pub invariant-loop-row : goal.invariant-loop-row
invariant-loop-row l = l.written ≡ take l.row-index l.rows
