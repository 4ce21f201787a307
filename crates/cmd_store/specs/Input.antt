-- What is read of an input that comes in pieces.
use Rattle.std.specs.Prelude.{◌≡◌, ℕ, ◌≤◌, List, [], ◌++◌, length, map, Option, Result, Ok, Err}
use Rattle.site_io.specs.Told.{BothTold}
use Rattle.ad_load_records.specs.declared.fault.LoadFault.{LoadFault}
use Rattle.ad_load_records.specs.declared.fault.LoadFault.TheVariants.{Bad}
use Rattle.ad_load_records.specs.Pieces.{Came, gives}
use Rattle.ad_load_records.specs.Records.{Record, records_in, most_lines}
use Rattle.ad_load_records.specs.Seen.{seen}
use Rattle.cmd_store.specs.declared.input.Read.{Read}
use Rattle.cmd_store.specs.declared.input.Read.TheVariants as read

-- what phase 1 gives
abbrev pub IsRead : Read → Result (List Record) LoadFault → Type 0
IsRead (read.Records records) given = given ≡ Ok (map seen records.items)
IsRead (read.Refusal at cause) given = given ≡ Err (Bad at cause)

-- The records are those of a text, and the input, which was read to its end, is that text; or the input has this
-- fault.
abbrev pub IsReadOf : Option (List ℕ) → Option (List ℕ) → Read → Type 0
IsReadOf rest left (read.Records records) = (text : List ℕ) × (records_in text ≡ Ok (map seen records.items))
    × BothTold rest left (λ input behind. (input ≡ text) × (behind ≡ []))
IsReadOf rest left (read.Refusal at cause) = BothTold rest left (λ input behind. records_in input ≡ Err (Bad at cause))

abbrev pub AreFew : Read → Type 0
AreFew (read.Records records) = length records.items ≤ most_lines
AreFew (read.Refusal at cause) = Unit {0}

-- This text came: it stands before what is left of the input, and with what is still to come it gives what the
-- pieces do.
pub record HasCome (rest left : Option (List ℕ)) (pieces : Came) : Type 0 where
  pub text : List ℕ
  pub told : BothTold rest left (λ input behind. input ≡ text ++ behind)
  pub goes_on : (behind : List ℕ) → records_in (text ++ behind) ≡ gives pieces behind
