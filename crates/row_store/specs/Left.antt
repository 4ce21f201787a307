-- The rows that are left, as the code keeps them.
use Rattle.std.specs.Prelude.{ℕ, List, map, Some}
use Rattle.std.specs.declared.cmp.Ordering.{Ordering}
use Rattle.std.specs.BTreeMap.{BTreeMap, get}
use Rattle.std.specs.Ordering.{nat_cmp, ordering_then}
use Rattle.row_store.specs.declared.row.Row.{Row}
use Rattle.row_store.specs.Table.{Table}

-- by kind, and then by number
abbrev pub key_cmp : ℕ × ℕ → ℕ × ℕ → Ordering
key_cmp x y = ordering_then (nat_cmp x.0 y.0) (nat_cmp x.1 y.1)

abbrev pub table_in : BTreeMap (ℕ × ℕ) (List ℕ) → Table
table_in left kind number = get key_cmp left (kind, number)

abbrev pub row_of : (ℕ × ℕ) × List ℕ → Row
row_of entry = record { kind = entry.0.0; number = entry.0.1; body = Some entry.1 }

abbrev pub rows_of : List ((ℕ × ℕ) × List ℕ) → List Row
rows_of entries = map row_of entries
