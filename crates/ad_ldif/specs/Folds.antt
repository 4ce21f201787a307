-- Physical lines that all continue a line, whatever stands after them.
use Rattle.std.specs.Prelude.{◌≡◌, ℕ, ◌+◌, List, ◌++◌, true}
use Rattle.ad_ldif.specs.Lines.{physical, continuation, logical}

-- these lines at the start, of this number, add so much to the line before them, and others don't change that
abbrev pub Adds : List (List ℕ) → List ℕ → ℕ → List (List ℕ) → Type 0
Adds all tail count left = (others : List (List ℕ)) →
    (continuation (all ++ others) ≡ tail ++ continuation (left ++ others))
    × ((n : ℕ) → logical true n (all ++ others) ≡ logical true (n + count) (left ++ others))

-- the same of a text
abbrev pub Folds : List ℕ → List ℕ → ℕ → Type 0
Folds raw tail count = (after : List ℕ) →
    (continuation (physical (raw ++ after)) ≡ tail ++ continuation (physical after))
    × ((n : ℕ) → logical true n (physical (raw ++ after)) ≡ logical true (n + count) (physical after))
