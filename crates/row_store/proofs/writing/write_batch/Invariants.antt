use Rattle.std.proofs.Common.{◌≡◌, ◌++◌, List, ℕ, take, length}
use Rattle.ad_bytes.specs.Reading.{SpellsEach}
use Rattle.ad_bytes.specs.Numbers.{be_bytes}
use Rattle.row_store.specs.Row.{SpellsRow}
use Rattle.row_store.proofs.writing.write_batch.Given as goal

-- the rows so far, after their count
abbrev pub invariant-loop-row : goal.invariant-loop-row
invariant-loop-row l = (text : List ℕ) × SpellsEach SpellsRow (take l.row-index l.rows) text
    × (l.body.items ≡ be_bytes 8 (length l.rows) ++ text)
