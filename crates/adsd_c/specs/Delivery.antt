-- What a caller is given: a code, and by the code what was put into its memory.
use Rattle.std.specs.Prelude.{◌≡◌, ◌⊎◌, ℕ, ◌<◌, ◌≤◌, List, ◌++◌, length, drop, Result, Ok, Err}
use Rattle.adsd_c.specs.declared.refusal.Refusal.{Refusal}
use Rattle.adsd_c.specs.declared.refusal.Refusal.TheVariants.{Memory}
use Rattle.adsd_c.specs.Refusal.{answered, no_memory, no_room, code_of, place_of}

-- ---- bytes into a buffer

-- The number of the bytes is told. With room for them they stand at the buffer's start, and what is after them stays.
-- With less the code says so, and all of the buffer stays.
abbrev pub Fills : List ℕ → ℕ → List ℕ → List ℕ → ℕ → Type 0
Fills bytes code old new size =
    (size ≡ length bytes)
    × (length bytes ≤ length old → (code ≡ answered) × (new ≡ bytes ++ drop (length bytes) old))
    × (length old < length bytes → (code ≡ no_room) × (new ≡ old))

-- The buffer stays, and in place of a number of bytes the place of the fault in a text is told.
abbrev pub Refuses : Refusal → ℕ → List ℕ → List ℕ → ℕ → Type 0
Refuses fault code old new size = (code ≡ code_of fault) × (new ≡ old) × (size ≡ place_of fault)

abbrev pub Answers : Result (List ℕ) Refusal → ℕ → List ℕ → List ℕ → ℕ → Type 0
Answers (Ok bytes) code old new size = Fills bytes code old new size
Answers (Err fault) code old new size = Refuses fault code old new size

-- the answer, or that memory ran out
abbrev pub Delivers : Result (List ℕ) Refusal → ℕ → List ℕ → List ℕ → ℕ → Type 0
Delivers answer code old new size = Answers answer code old new size ⊎ Refuses Memory code old new size

-- ---- one number

-- A number, or else 0.
abbrev pub Tells : {A : Type 0} → (A → ℕ → Type 0) → Result A Refusal → ℕ → ℕ → Type 0
Tells IsAnswer (Ok x) code number = (code ≡ answered) × IsAnswer x number
Tells IsAnswer (Err fault) code number = (code ≡ code_of fault) × (number ≡ 0)

-- the answer, or that memory ran out
abbrev pub TellsUnless : {A : Type 0} → (A → ℕ → Type 0) → Result A Refusal → ℕ → ℕ → Type 0
TellsUnless IsAnswer answer code number = Tells IsAnswer answer code number ⊎ ((code ≡ no_memory) × (number ≡ 0))
