-- What slots are opened as: a directory, or a reason why they represent none.
use Rattle.std.specs.Prelude.{ℕ, Bool, true, false, Result, Ok, Err, ◌≡◌}
use Rattle.site_io.specs.Disk.{Images}
use Rattle.gate_log.specs.Store.{IsEmptyStore}
use Rattle.row_store.specs.Rows.{HasTable, IsBrokenTable}
use Rattle.row_store.specs.Table.{Table}
use Rattle.row_store.specs.declared.fault.StoreFault.{StoreFault}
use Rattle.row_store.specs.declared.fault.StoreFault.TheVariants as store
use Rattle.ad_dir_model.specs.Directory.{Directory}
use Rattle.ad_rows.specs.Form.{AreRight, IsLeastBad}
use Rattle.ad_rows.specs.Refusal.{IsRefusal, StandsForNone}
use Rattle.ad_rows_write.specs.Rows.{IsStoreOf}
use Rattle.ad_bytes.specs.Reading.{GivesUnless}
use Rattle.ad_rows.specs.declared.fault.RowsFault.{RowsFault}
use Rattle.ad_rows.specs.declared.fault.RowsFault.TheVariants as rows
use Rattle.ad_engine_store.specs.declared.fault.OpenFault.{OpenFault}
use Rattle.ad_engine_store.specs.declared.fault.OpenFault.TheVariants.{Taken, Empty, Broken, Row, Unsound, Site, Memory}
use Rattle.ad_engine_store.specs.declared.dir_store.DirStore.{DirStore}

-- Why slots were not opened. A row or a number is told only where the slots have rows that represent no sound
-- directory: the least row that isn't of its form or isn't there, and where there is none the number that is told
-- of what they make.
abbrev pub Refuses : Images → OpenFault → Type 0
Refuses held Taken = ⊥
Refuses held Empty = IsEmptyStore held
Refuses held Broken = IsBrokenTable held
Refuses held (Row kind number) = (table : Table) × HasTable held table × IsRefusal table (rows.Row kind number)
Refuses held (Unsound number) = (table : Table) × HasTable held table × IsRefusal table (rows.Unsound number)
Refuses held Site = ⊥
Refuses held Memory = ⊥

-- The slots are opened as this.
abbrev pub Opens : Images → Result Directory OpenFault → Type 0
Opens held (Ok dir) = IsStoreOf held dir
Opens held (Err fault) = Refuses held fault

-- the faults that no slots have: the site failed, or memory ran out
abbrev pub is_outside : OpenFault → Bool
is_outside Taken = false
is_outside Empty = false
is_outside Broken = false
is_outside (Row kind number) = false
is_outside (Unsound number) = false
is_outside Site = true
is_outside Memory = true

-- The answer is what the slots are opened as, unless the site failed or memory ran out.
abbrev pub IsOpenedAs : Images → Result DirStore OpenFault → Type 0
IsOpenedAs held (Ok engine) = Opens held (Ok engine.dir)
IsOpenedAs held (Err fault) = is_outside fault ≡ false → Opens held (Err fault)

abbrev pub directory_in : DirStore → Directory
directory_in engine = engine.dir

-- the answer is a number, or the site failed or memory ran out
abbrev pub IsNumber : Result DirStore OpenFault → Type 0
IsNumber (Ok engine) = ⊥
IsNumber (Err Taken) = ⊥
IsNumber (Err Empty) = ⊥
IsNumber (Err Broken) = ⊥
IsNumber (Err (Row kind number)) = ⊥
IsNumber (Err (Unsound number)) = Unit {0}
IsNumber (Err Site) = Unit {0}
IsNumber (Err Memory) = Unit {0}

-- Slots of an empty store and of a broken one are refused as such, those with a row that isn't of its form for the
-- least such row, and those whose rows are all of their forms and make no sound directory with a number, unless the
-- site failed or memory ran out.
pub record AnswersFor (held : Images) (result : Result DirStore OpenFault) : Type 0 where
  pub empty : IsEmptyStore held → GivesUnless is_outside directory_in result (Err Empty)
  pub broken : IsBrokenTable held → GivesUnless is_outside directory_in result (Err Broken)
  pub row : (table : Table) (kind number : ℕ) → HasTable held table → IsLeastBad table kind number
      → GivesUnless is_outside directory_in result (Err (Row kind number))
  pub unsound : (table : Table) → HasTable held table → AreRight table → StandsForNone table → IsNumber result

-- ---- the faults of the parts

abbrev pub of_store : StoreFault → OpenFault
of_store store.Taken = Taken
of_store store.Empty = Empty
of_store store.Broken = Broken
of_store store.Spent = Site
of_store store.Site = Site
of_store store.Memory = Memory

abbrev pub of_rows : RowsFault → OpenFault
of_rows (rows.Row kind number) = Row kind number
of_rows (rows.Unsound number) = Unsound number
of_rows rows.Memory = Memory
