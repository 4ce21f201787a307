-- The bytes of rows that are written one after the other, after room for what a slot has before them and for their
-- count.
use Rattle.std.specs.Prelude.{◌≡◌, ◌≤◌, ℕ, List, [], length, drop, Ok, Err}
use Rattle.ad_bytes.specs.Reading.{Reading, SpellsEach, many_at}
use Rattle.row_store.specs.declared.row.Row.{Row}
use Rattle.row_store.specs.declared.reading.RowFault.{RowFault}
use Rattle.row_store.specs.Row.{SpellsRow}
use Rattle.row_store.specs.RowReading.{row_at}

abbrev pub rows_found : Reading (List Row) RowFault → List Row
rows_found (Ok found) = found.0
rows_found (Err fault) = []

-- so many rows of a text
abbrev pub rows_in : ℕ → List ℕ → List Row
rows_in count text = rows_found (many_at row_at count text)

-- after the room stand so many rows, and nothing more
pub record IsWritten (count : ℕ) (bytes : List ℕ) : Type 0 where
  pub room : 30 ≤ length bytes
  pub many : length (rows_in count (drop 30 bytes)) ≡ count
  pub spelled : SpellsEach SpellsRow (rows_in count (drop 30 bytes)) (drop 30 bytes)
