use Rattle.std.proofs.Common.{◌≡◌, ◌++◌}
use Rattle.std.specs.BTreeMap.{btree_map_len}
use Rattle.ad_rows_write.specs.Noted.{rows_noted}
use Rattle.ad_rows_write.proofs.noting.rows_in_order.Given as goal

-- the rows so far, before those that are left
abbrev pub invariant-loop-kind : goal.invariant-loop-kind
invariant-loop-kind l = l.rows.items ++ rows_noted l.noted.entries ≡ rows_noted l.fn.noted.entries

abbrev pub decreases-loop-kind : goal.decreases-loop-kind
decreases-loop-kind l = btree_map_len l.noted
