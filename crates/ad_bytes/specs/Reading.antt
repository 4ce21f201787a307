-- Reading from left to right: the value that stands at the start and the bytes after it, or the first fault that is
-- met.
use Rattle.std.specs.Prelude.{◌≡◌, ◌<◌, ℕ, zero, suc, slice_index, Bool, true, false, List, [], ◌∷◌, ◌++◌, length}
use Rattle.std.specs.Prelude.{Result, Ok, Err}

-- every number of the list is a byte
abbrev pub IsBytes : List ℕ → Type 0
IsBytes bytes = (i : ℕ) → slice_index bytes i < 256

-- What a reader gives of some bytes: a value and the bytes after it, or a fault.
abbrev pub Reading : Type 0 → Type 0 → Type 0
Reading A E = Result (A × List ℕ) E

-- one step, and then the next on what the first gave
infixl 10 ◌>>=◌
abbrev pub ◌>>=◌ : {A B E : Type 0} → Result A E → (A → Result B E) → Result B E
(Ok x) >>= f = f x
(Err e) >>= f = Err e

-- a test that has to hold, or this is the fault
abbrev pub need : {E : Type 0} → Bool → E → Result (Unit {0}) E
need true e = Ok tt
need false e = Err e

-- a part, whose faults get another name here
abbrev pub fault_as : {A E F : Type 0} → (E → F) → Result A E → Result A F
fault_as name (Ok x) = Ok x
fault_as name (Err e) = Err (name e)

-- a part, any of whose faults is this one here
abbrev pub or_fault : {A E F : Type 0} → F → Result A E → Result A F
or_fault fault (Ok x) = Ok x
or_fault fault (Err e) = Err fault

-- n values of one kind, one after the other
unfoldable pub many_at : {A E : Type 0} → (List ℕ → Reading A E) → ℕ → List ℕ → Reading (List A) E
many_at read zero bytes = Ok ([], bytes)
many_at read (suc n) bytes = do
  first ← read bytes
  others ← many_at read n first.1
  Ok (first.0 ∷ others.0, others.1)

-- What a function that consumes its input returned, and the bytes that it left, are what reading gives.
abbrev pub Reads : {A E : Type 0} → Result A E → List ℕ → Reading A E → Type 0
Reads (Ok x) left read = read ≡ Ok (x, left)
Reads (Err e) left read = read ≡ Err e

-- The same of a function that takes memory, whose value is seen by a view: want of memory may come instead of any
-- answer.
abbrev pub ReadsUnless : {X Y E : Type 0} → (E → Bool) → (X → Y) → Result X E → List ℕ → Reading Y E → Type 0
ReadsUnless is_memory view (Ok x) left read = read ≡ Ok (view x, left)
ReadsUnless is_memory view (Err e) left read = is_memory e ≡ false → read ≡ Err e

-- The same of a function that is given all its bytes.
abbrev pub GivesUnless : {X Y E : Type 0} → (E → Bool) → (X → Y) → Result X E → Result Y E → Type 0
GivesUnless is_memory view (Ok x) read = read ≡ Ok (view x)
GivesUnless is_memory view (Err e) read = is_memory e ≡ false → read ≡ Err e

-- A prefix of the bytes is an encoding of the value, and the rest stands after it.
pub record TakesFront {A : Type 0} (Spells : A → List ℕ → Type 0) (bytes : List ℕ) (value : A) (rest : List ℕ) : Type
    0 where
  pub text : List ℕ
  pub parts : bytes ≡ text ++ rest
  pub spelled : Spells value text

-- A reader is one of a format: what it reads is encoded so, and what is encoded so is read, whatever follows.
pub record IsReaderOf {A E : Type 0} (Spells : A → List ℕ → Type 0) (read : List ℕ → Reading A E) : Type 0 where
  pub takes : (bytes : List ℕ) (value : A) (rest : List ℕ) → IsBytes bytes → read bytes ≡ Ok (value, rest)
      → TakesFront Spells bytes value rest
  pub again : (value : A) (text rest : List ℕ) → Spells value text → read (text ++ rest) ≡ Ok (value, rest)

-- The text starts with an encoding of the value, and what follows is as said.
pub record StartsWith {A : Type 0} (Spells : A → List ℕ → Type 0) (value : A) (Follows : List ℕ → Type 0)
    (text : List ℕ) : Type 0 where
  pub front : List ℕ
  pub behind : List ℕ
  pub parts : text ≡ front ++ behind
  pub spelled : Spells value front
  pub follows : Follows behind

-- values of one kind are encoded one after the other
abbrev pub SpellsEach : {A : Type 0} → (A → List ℕ → Type 0) → List A → List ℕ → Type 0
SpellsEach Spells [] text = text ≡ []
SpellsEach Spells (x ∷ xs) text = StartsWith Spells x (SpellsEach Spells xs) text

-- n values, encoded one after the other
abbrev pub SpellsMany : {A : Type 0} → (A → List ℕ → Type 0) → ℕ → List A → List ℕ → Type 0
SpellsMany Spells n xs text = (length xs ≡ n) × SpellsEach Spells xs text
