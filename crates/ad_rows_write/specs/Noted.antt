-- The rows that a batch keeps, by kind and number.
use Rattle.std.specs.Prelude.{ℕ, List, map, Option}
use Rattle.row_store.specs.declared.row.Row.{Row}

abbrev pub row_noted : (ℕ × ℕ) × Option (List ℕ) → Row
row_noted entry = record { kind = entry.0.0; number = entry.0.1; body = entry.1 }

abbrev pub rows_noted : List ((ℕ × ℕ) × Option (List ℕ)) → List Row
rows_noted entries = map row_noted entries
