-- What is known of a record that was read. Only for private contracts, invariants and proofs.
use Rattle.std.specs.Prelude.{◌≡◌, ℕ, List, Ok}
use Rattle.std.specs.List.{AllByRecursion}
use Rattle.ad_bytes.specs.Reading.{IsBytes}
use Rattle.ad_dn.specs.Value.{AreRdns}
use Rattle.ad_ldif.specs.Records.{Field}
use Rattle.ad_value.specs.declared.syntax.Syntax.{Syntax}
use Rattle.ad_value.specs.Value.{Value}
use Rattle.ad_value.specs.ValueOf.{normal_or_fault}
use Rattle.ad_load_records.specs.Records.{Record}

abbrev pub HasBytes : Field → Type 0
HasBytes field = IsBytes field.value

-- its name has the form of a name, and its values are bytes
pub record IsGoodRecord (r : Record) : Type 0 where
  pub rdns : AreRdns r.rdns
  pub bytes : AllByRecursion HasBytes r.fields

-- what a value shows reads back
abbrev pub ReadsBack : Type 0
ReadsBack = (s : Syntax) (bytes : List ℕ) (v : Value) → IsBytes bytes → normal_or_fault s bytes ≡ Ok v
    → normal_or_fault s v.shown ≡ Ok v
