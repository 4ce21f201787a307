-- What is read from a source.
use Rattle.std.specs.Prelude.{◌≡◌, ◌<◌, ◌++◌, length, List, ℕ, Option, Result, Ok, Err}
use Rattle.ad_bytes.specs.Reading.{Reading}
use Rattle.site_io.specs.Told.{BothTold}
use Rattle.ad_frames.specs.declared.fault.FrameFault.{FrameFault}
use Rattle.ad_frames.specs.declared.fault.FrameFault.TheVariants as fault

-- What a function that reads from a source returned is what reading the bytes to come gives, of which what was read
-- is gone. Of a failing source and of want of memory nothing is said here.
abbrev pub ReadsSource : {X : Type 0} → Option (List ℕ) → Option (List ℕ) → Result X FrameFault
    → (List ℕ → Reading X FrameFault) → Type 0
ReadsSource old new (Ok x) read = BothTold old new (λ before after. read before ≡ Ok (x, after))
ReadsSource old new (Err fault.Source) read = Unit {0}
ReadsSource old new (Err fault.Memory) read = Unit {0}
ReadsSource old new (Err e) read = BothTold old new (λ before after. read before ≡ Err e)

-- What was taken is too short for what was to be read.
abbrev pub IsCutShort : {X : Type 0} → Option (List ℕ) → Option (List ℕ) → (List ℕ → Reading X FrameFault) → Type 0
IsCutShort old new read = BothTold old new (λ before after. (taken : List ℕ) × (before ≡ taken ++ after)
    × (read taken ≡ Err fault.Truncated))

-- Fewer bytes were taken than there was room for.
abbrev pub TakesFewer : Option (List ℕ) → Option (List ℕ) → ℕ → Type 0
TakesFewer old new room = BothTold old new (λ before after. (taken : List ℕ) × (before ≡ taken ++ after)
    × (length taken < room))
