use Rattle.row_store.specs.Left.{table_in}
use Rattle.row_store.proofs.Tables.{rows_push}
use Rattle.row_store.proofs.table.take_rows.Goals as goal

pub loop-row-preserved : goal.loop-row-preserved
loop-row-preserved c =
    rows_push c.loop-row.yielded c.in-Some.row (table_in c.args.left.now) (table_in c.loop-row.left)
    (table_in c.take_row.new.left) c.loop-row.invariant c.in_ok-take_row.ensures.left
