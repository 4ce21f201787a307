use Rattle.std.proofs.Common.{◌≡◌, take}
use Rattle.row_store.proofs.table.owned.Given as goal

-- the copies so far
abbrev pub invariant-loop-row : goal.invariant-loop-row
invariant-loop-row l = l.copies.items ≡ take l.row-index l.rows
