-- What a search for the first element that passes a test answers.
use Rattle.std.specs.Prelude.{◌≡◌, ℕ, zero, suc, ◌<◌, Bool, true, false, Option, None, Some, List, [], ◌∷◌, length}
use Rattle.std.specs.List.{AllByRecursion}

-- the first that passes stands at this place
abbrev pub IsFirst : {X : Type 0} → (X → Bool) → ℕ → List X → Type 0
IsFirst test place [] = ⊥
IsFirst test zero (x ∷ xs) = test x ≡ true
IsFirst test (suc place) (x ∷ xs) = (test x ≡ false) × IsFirst test place xs

-- it stands there, or none passes
abbrev pub FirstPasses : {X : Type 0} → (X → Bool) → Option ℕ → List X → Type 0
FirstPasses test None xs = AllByRecursion (λ x. test x ≡ false) xs
FirstPasses test (Some place) xs = IsFirst test place xs

-- the place is one of the list's, if there is one
abbrev pub PlaceWithin : {X : Type 0} → Option ℕ → List X → Type 0
PlaceWithin None xs = Unit {0}
PlaceWithin (Some place) xs = place < length xs
