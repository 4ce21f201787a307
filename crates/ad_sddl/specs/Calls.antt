-- What the calls of the reader answer, by what reading gives.
use Rattle.std.specs.Prelude.{◌≡◌, ℕ, Bool, true, false, Option, Some, None, List, Result, Ok, Err}
use Rattle.ad_bytes.specs.Reading.{Reading}
use Rattle.ad_sd.specs.declared.parts.SdParts.{SdParts}
use Rattle.ad_sddl.specs.declared.fault.ParseError.{ParseError}
use Rattle.ad_sddl.specs.declared.fault.ParseError.TheVariants.{Bad, Memory}

-- the one fault that no text has
abbrev pub is_memory : ParseError → Bool
is_memory (Bad kind left) = false
is_memory Memory = true

-- a call that leaves the bytes after what it gave
abbrev pub with_rest : {A : Type 0} → List ℕ → Option A → Option (A × List ℕ)
with_rest left None = None
with_rest left (Some x) = Some (x, left)

-- a call that puts what it reads into the parts
abbrev pub ReadsParts : Result (Unit {0}) ParseError → SdParts → List ℕ → Reading SdParts ParseError → Type 0
ReadsParts (Ok u) parts left read = read ≡ Ok (parts, left)
ReadsParts (Err e) parts left read = is_memory e ≡ false → read ≡ Err e

-- a call that puts all of them into the parts
abbrev pub ReadsAll : Result (Unit {0}) ParseError → SdParts → Result SdParts ParseError → Type 0
ReadsAll (Ok u) parts read = read ≡ Ok parts
ReadsAll (Err e) parts read = is_memory e ≡ false → read ≡ Err e
