use Rattle.row_store.specs.Left.{table_in}
use Rattle.row_store.specs.Table.{SameTable, with_rows}
use Rattle.row_store.proofs.table.take_rows.Given as goal

abbrev pub invariant-loop-row : goal.invariant-loop-row
invariant-loop-row l = SameTable (with_rows (table_in l.fn.left) l.yielded) (table_in l.left)
