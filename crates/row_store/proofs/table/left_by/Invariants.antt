use Rattle.std.proofs.Common.{List, take}
use Rattle.row_store.specs.declared.row.Row.{Row}
use Rattle.row_store.specs.Left.{table_in}
use Rattle.row_store.specs.Row.{SpellBatches}
use Rattle.row_store.specs.Table.{SameTable, table_of, all_rows}
use Rattle.row_store.proofs.table.left_by.Given as goal

abbrev pub invariant-loop-body : goal.invariant-loop-body
invariant-loop-body l = (batches : List (List Row)) × SpellBatches batches (take l.body-index l.bodies)
    × SameTable (table_of (all_rows batches)) (table_in l.left)
