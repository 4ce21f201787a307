-- What a refusal of rows says of them.
use Rattle.std.specs.Prelude.{◌≡◌, ℕ, Bool, true, false, List, Result, Ok, Err}
use Rattle.ad_schema.specs.declared.line.SchemaRecord.{SchemaRecord}
use Rattle.row_store.specs.Table.{Table}
use Rattle.ad_dir_model.specs.Directory.{Directory}
use Rattle.ad_dir_model.specs.Soundness.{IsSound}
use Rattle.ad_rows_sound.specs.Told.{IsToldAt}
use Rattle.ad_rows.specs.declared.fault.RowsFault.{RowsFault}
use Rattle.ad_rows.specs.declared.fault.RowsFault.TheVariants.{Row, Unsound, Memory}
use Rattle.ad_rows.specs.Form.{HasSchema, AreRight, IsLeastBad, IsMade}
use Rattle.ad_rows_write.specs.Rows.{AreRowsOf}

-- the one fault that no rows have
abbrev pub is_memory : RowsFault → Bool
is_memory (Row kind number) = false
is_memory (Unsound number) = false
is_memory Memory = true

-- the rows represent no sound directory
abbrev pub StandsForNone : Table → Type 0
StandsForNone table = (dir : Directory) → AreRowsOf dir table → IsSound dir → ⊥

-- What a number says of rows that are all of their forms: 0 where they make no schema, and else what is told of the
-- directory that they make.
pub data IsToldOf (table : Table) (number : ℕ) : Type 0 where
  no_schema : number ≡ 0 → ((schema : List SchemaRecord) → HasSchema table schema → ⊥) → IsToldOf table number
  unsound : (dir : Directory) → IsMade table dir → IsToldAt dir number → IsToldOf table number

-- Rows are refused only where they represent no sound directory, or for want of memory: for the least row that
-- isn't of its form or isn't there; and where there is none, by the number that is told of what they make.
abbrev pub IsRefusal : Table → RowsFault → Type 0
IsRefusal table (Row kind number) = StandsForNone table × IsLeastBad table kind number
IsRefusal table (Unsound number) = StandsForNone table × AreRight table × IsToldOf table number
IsRefusal table Memory = Unit {0}

-- the answer is a number, or memory ran out
abbrev pub IsUnsound : Result Directory RowsFault → Type 0
IsUnsound (Ok dir) = ⊥
IsUnsound (Err (Row kind number)) = ⊥
IsUnsound (Err (Unsound number)) = Unit {0}
IsUnsound (Err Memory) = Unit {0}
