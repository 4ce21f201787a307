-- A text that comes in pieces.
use Rattle.std.specs.Prelude.{ℕ, ◌+◌, nat_le, Option, Some, None, List, ◌++◌, length, Result, Err}
use Rattle.ad_bytes.specs.Reading.{◌>>=◌, need}
use Rattle.ad_ldif.specs.Story.{story_from}
use Rattle.ad_load_records.specs.declared.fault.LoadFault.{LoadFault}
use Rattle.ad_load_records.specs.declared.fault.LoadCause.TheVariants as cause
use Rattle.ad_load_records.specs.Faults.{of_all}
use Rattle.ad_load_records.specs.Prefixed.{prefixed}
use Rattle.ad_load_records.specs.Records.{Record, max_text, all_of}

-- records that were read, and after them those of a text whose first line has this number
abbrev pub read_on : List Record → ℕ → List ℕ → Result (List Record) LoadFault
read_on records line text = prefixed records (all_of (story_from line text))

-- How many bytes came; the records that were read of them, and the bytes from this line on that are in none of
-- these; and the first fault, if there is one.
pub record Came : Type 0 where
  pub count : ℕ
  pub line : ℕ
  pub held : List ℕ
  pub records : List Record
  pub stop : Option LoadFault

-- the records of the whole text, which has this rest; the second is judged after its length
abbrev pub read_of : Came → List ℕ → Result (List Record) LoadFault
read_of came rest = elim came.stop [ None ↦ read_on came.records came.line (came.held ++ rest) | Some f ↦ Err f ]

unfoldable pub gives : Came → List ℕ → Result (List Record) LoadFault
gives came rest = do
  _ ← need (nat_le (came.count + length rest) max_text) (of_all cause.TooLong)
  read_of came rest
