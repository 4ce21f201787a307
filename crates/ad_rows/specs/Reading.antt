-- What is known of what was read of some rows, and what is answered of it.
use Rattle.std.specs.Prelude.{◌≡◌, ℕ, ◌<◌, ◌≤◌, Bool, true, false, Option, Some, None}
use Rattle.std.specs.Prelude.{List, [], ◌∷◌, ◌++◌, MatchOption, Result, Ok, Err, IfErr, IfOk, IfSome}
use Rattle.std.specs.List.{AllByRecursion}
use Rattle.ad_bytes.specs.Reading.{GivesUnless}
use Rattle.ad_schema.specs.declared.line.SchemaRecord.{SchemaRecord}
use Rattle.row_store.specs.Table.{Table}
use Rattle.ad_dir_model.specs.Object.{Object}
use Rattle.ad_dir_model.specs.Directory.{Directory}
use Rattle.ad_dir_model.specs.Soundness.{IsContent, IsSound}
use Rattle.ad_dir_objects.specs.Seen.{objects_of}
use Rattle.ad_rows_sound.specs.Objects.{HasSmallNumber}
use Rattle.ad_rows_sound.specs.Told.{IsToldAt}
use Rattle.ad_rows.specs.declared.fault.RowsFault.{RowsFault}
use Rattle.ad_rows.specs.declared.fault.RowsFault.TheVariants.{Row, Unsound, Memory}
use Rattle.ad_rows.specs.declared.fault.RowFault.TheVariants as row
use Rattle.ad_rows.specs.declared.taking.Taken.{Taken}
use Rattle.ad_rows.specs.Form.{AreRight, IsLeastBad}
use Rattle.ad_rows.specs.Refusal.{IsRefusal, IsUnsound, StandsForNone, is_memory}
use Rattle.ad_rows_write.specs.Rows.{AreRowsOf, IsOnlyOf}
use Rattle.ad_rows.specs.Taking.{Parts, AreAll, completed}

-- numbers rise above one, and the last is no greater than another
abbrev pub RiseUpTo : ℕ → ℕ → List Object → Type 0
RiseUpTo above last [] = above ≤ last
RiseUpTo above last (o ∷ others) = (above < o.number) × RiseUpTo o.number last others

-- the first number of an object whose content isn't of the schema, with one object more
abbrev pub first_bad : Option ℕ → Bool → ℕ → Option ℕ
first_bad (Some first) good number = Some first
first_bad None true number = None
first_bad None false number = Some number

-- The object of the number is the first whose content isn't of the schema.
pub record IsFirstBad (schema : List SchemaRecord) (objects : List Object) (number : ℕ) : Type 0 where
  pub before : List Object
  pub object : Object
  pub behind : List Object
  pub parts : objects ≡ before ++ object ∷ behind
  pub is : object.number ≡ number
  pub fails : IsContent schema object → ⊥
  pub good : AllByRecursion (IsContent schema) before

-- Objects as they were taken in: their numbers rise up to the last, and the first whose content isn't of the schema
-- was noted as bad.
pub record AreTaken (schema : List SchemaRecord) (bad : Option ℕ) (last : ℕ) (objects : List Object) : Type 0 where
  pub rise : RiseUpTo 0 last objects
  pub small : AllByRecursion HasSmallNumber objects
  pub content : MatchOption bad (AllByRecursion (IsContent schema) objects) (IsFirstBad schema objects)

abbrev pub HasTaken : List SchemaRecord → Taken → Type 0
HasTaken schema taken = AreTaken schema taken.bad taken.last (objects_of taken.objects.items)

-- the same still holds with more taken in
abbrev pub IsStillTaken : Option (List SchemaRecord) → Taken → Taken → Type 0
IsStillTaken schema old new = IfSome schema (λ s. HasTaken s old → HasTaken s new)

-- a fault is what is told of the directory
abbrev pub IsFaultOf : Directory → RowsFault → Type 0
IsFaultOf dir (Row kind number) = ⊥
IsFaultOf dir (Unsound number) = IsToldAt dir number
IsFaultOf dir Memory = Unit {0}

-- what a number says of parts: 0 where there is no schema, and else what is told of the directory of the parts
pub data IsToldOfParts (schema : Option (List SchemaRecord)) (parts : Parts) (number : ℕ) : Type 0 where
  none : schema ≡ None → number ≡ 0 → IsToldOfParts schema parts number
  told : (dir : Directory) → schema ≡ Some dir.schema → AreAll dir parts → IsToldAt dir number
      → IsToldOfParts schema parts number

-- What is answered of parts, where all rows were taken in.
abbrev pub IsAnswerOf : Option (List SchemaRecord) → Parts → Result Directory RowsFault → Type 0
IsAnswerOf schema parts (Ok dir) = (schema ≡ Some dir.schema) × AreAll dir parts × IsSound dir
IsAnswerOf schema parts (Err (Row kind number)) = completed parts ≡ Err (row.Row kind number)
IsAnswerOf schema parts (Err (Unsound number)) = (completed parts ≡ Ok parts) × IsToldOfParts schema parts number
IsAnswerOf schema parts (Err Memory) = Unit {0}

-- What is answered of rows.
abbrev pub Answers : Table → Result Directory RowsFault → Type 0
Answers table (Ok dir) = AreRowsOf dir table × IsSound dir × AreRight table
Answers table (Err fault) = IsRefusal table fault

-- What is answered of them, as `read_dir` says it.
pub record IsReading (table : Table) (result : Result Directory RowsFault) : Type 0 where
  pub rows : IfOk result (λ dir. AreRowsOf dir table)
  pub sound : IfOk result (λ dir. IsSound dir)
  pub only : IfOk result (IsOnlyOf table)
  pub told : IfErr result (IsRefusal table)
  pub complete : (dir : Directory) → AreRowsOf dir table → IsSound dir
      → GivesUnless is_memory (λ (read : Directory). read) result (Ok dir)
  pub row : (kind number : ℕ) → IsLeastBad table kind number → GivesUnless is_memory (λ (read : Directory). read)
      result (Err (Row kind number))
  pub unsound : AreRight table → StandsForNone table → IsUnsound result
