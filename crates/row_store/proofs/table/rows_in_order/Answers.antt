use Rattle.std.proofs.Common.{List, None, sym, ap, ◌∙◌, subst}
use Rattle.row_store.specs.declared.row.Row.{Row}
use Rattle.row_store.specs.Table.{AreListed, after_rows}
use Rattle.row_store.proofs.Lists.{are_listed, listed_table, all_listed}
use Rattle.row_store.proofs.table.rows_in_order.Goals as goal

pub returns-clause-listed : goal.returns-clause-listed
returns-clause-listed c =
    let all = all_listed c.loop-kind.rows.items c.loop-kind.left.entries c.args.left.entries c.pop_first.result
    c.pop_first.ensures.variant c.in_default.is c.loop-kind.invariant in
    subst AreListed (sym all) (are_listed c.args.left.entries c.len.ensures.ordered)

pub returns-clause-table : goal.returns-clause-table
returns-clause-table c = λ kind number.
    let all = all_listed c.loop-kind.rows.items c.loop-kind.left.entries c.args.left.entries c.pop_first.result
    c.pop_first.ensures.variant c.in_default.is c.loop-kind.invariant in
    ap (λ (rows : List Row). after_rows rows kind number None) all ∙ listed_table c.args.left.entries
    (are_listed c.args.left.entries c.len.ensures.ordered) kind number
