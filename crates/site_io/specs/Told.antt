-- What is observable of an object's content, and what a call does to it.
use Rattle.std.specs.Prelude.{◌≡◌, ℕ, ◌<◌, List, [], ◌++◌, length, take, Option, None, Some, Result, Ok, Err}

-- It tells its content before exactly where it tells it after, and then the two contents meet P.
abbrev pub BothTold : {A : Type 0} → Option A → Option A → (A → A → Type 0) → Type 0
BothTold None None P = Unit {0}
BothTold (Some old) (Some new) P = P old new
BothTold None (Some new) P = ⊥
BothTold (Some old) None P = ⊥

-- what is told stays as it was
abbrev pub StaysTold : {A : Type 0} → Option A → Option A → Type 0
StaysTold old new = BothTold old new (λ before after. after ≡ before)

-- n bytes were taken: the next of what is left, and none into a buffer for some only at the end
abbrev pub Took : Option (List ℕ) → Option (List ℕ) → ℕ → List ℕ → Type 0
Took old new n into = BothTold old new (λ before after. (before ≡ take n into ++ after)
    × (n ≡ 0 → 0 < length into → after ≡ []))

-- What a take does. One that fails leaves what is left.
abbrev pub TakesNext : {E : Type 0} → Option (List ℕ) → Option (List ℕ) → Result ℕ E → List ℕ → Type 0
TakesNext old new (Ok n) into = Took old new n into
TakesNext old new (Err e) into = StaysTold old new

-- An emit appended all bytes, or where it failed a prefix of them.
abbrev pub EmitsPrefix : {A E : Type 0} → Option (List ℕ) → Option (List ℕ) → Result A E → List ℕ → Type 0
EmitsPrefix old new (Ok done) bytes = BothTold old new (λ before after. after ≡ before ++ bytes)
EmitsPrefix old new (Err e) bytes = BothTold old new (λ before after. (n : ℕ) × (after ≡ before ++ take n bytes))
