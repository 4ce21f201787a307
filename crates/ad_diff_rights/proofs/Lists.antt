-- What stands at places of lists.
use Rattle.std.proofs.Common.{◌≡◌, ℕ, zero, suc, inl, inr, List, [], ◌∷◌, ◌++◌, length, refl, ap, Some}
use Rattle.std.specs.Prelude.{slice_get, ◌⊎◌}
use Rattle.std.proofs.lemmas.Option.{none-some, same_Some}

-- one more stands after
pub last_cases : {A : Type 0} (xs : List A) (x y : A) (i : ℕ) → slice_get (xs ++ (x ∷ [])) i ≡ Some y
    → (slice_get xs i ≡ Some y) ⊎ ((i ≡ length xs) × (x ≡ y))
last_cases [] x y zero is = inr (refl, same_Some x y is)
last_cases [] x y (suc i) is = absurd (none-some y is)
last_cases (z ∷ zs) x y zero is = inl is
last_cases (z ∷ zs) x y (suc i) is = elim (last_cases zs x y i is) [
  | inl before ↦ inl before
  | inr last ↦ inr (ap suc last.0, last.1)
]
