use Rattle.std.proofs.Common.{◌≡◌, ◌++◌}
use Rattle.std.specs.BTreeMap.{btree_map_len}
use Rattle.row_store.specs.Left.{rows_of}
use Rattle.row_store.proofs.table.rows_in_order.Given as goal

-- the rows so far, before those that are left
abbrev pub invariant-loop-kind : goal.invariant-loop-kind
invariant-loop-kind l = l.rows.items ++ rows_of l.left.entries ≡ rows_of l.fn.left.entries

abbrev pub decreases-loop-kind : goal.decreases-loop-kind
decreases-loop-kind l = btree_map_len l.left
