-- How the pieces are found: each as far to the left as it can be.
use Rattle.std.specs.Prelude.{◌≡◌, ℕ, List, ◌++◌}

-- The piece stands in the text before these bytes, and wherever else it stands, what is after it is an end of these.
pub record IsLeftmost (piece text after : List ℕ) : Type 0 where
  pub before : List ℕ
  pub parts : text ≡ before ++ (piece ++ after)
  pub others : (prefix rest : List ℕ) → text ≡ prefix ++ (piece ++ rest) → (more : List ℕ) × (after ≡ more ++ rest)

-- the piece stands nowhere in the text
abbrev pub IsNowhere : List ℕ → List ℕ → Type 0
IsNowhere piece text = (prefix rest : List ℕ) → text ≡ prefix ++ (piece ++ rest) → ⊥
