-- What stands at a place of a list, with more after it.
use Rattle.std.proofs.Common.{◌≡◌, ◌∙◌, ℕ, zero, suc, ◌<◌, ◌⊎◌, inl, inr, Some, List, [], ◌∷◌, ◌++◌, length}
use Rattle.std.proofs.Common.{refl, sym, ap, arith}
use Rattle.std.specs.Prelude.{slice_get, slice_index}
use Rattle.std.proofs.lemmas.Option.{same_Some, slice_get-get_or, slice_get_within, get_or_from_slice_get}

pub get_front : {A : Type 0} (xs ys : List A) (i : ℕ) → i < length xs → slice_get (xs ++ ys) i ≡ slice_get xs i
get_front [] ys i lt = absurd (omega (arith, lt))
get_front (x ∷ xs) ys zero lt = refl
get_front (x ∷ xs) ys (suc i) lt = get_front xs ys i (omega (arith, lt))

pub get_before : {A : Type 0} (xs ys : List A) (i : ℕ) (x : A) → slice_get xs i ≡ Some x
    → slice_get (xs ++ ys) i ≡ Some x
get_before xs ys i x at = get_front xs ys i (slice_get_within xs i x at) ∙ at

pub get_seam : {A : Type 0} (xs : List A) (y : A) → slice_get (xs ++ y ∷ []) (length xs) ≡ Some y
get_seam [] y = refl
get_seam (x ∷ xs) y = get_seam xs y

pub get_either : {A : Type 0} (xs : List A) (y : A) (i : ℕ) (x : A) → slice_get (xs ++ y ∷ []) i ≡ Some x
    → (slice_get xs i ≡ Some x) ⊎ ((i ≡ length xs) × (x ≡ y))
get_either [] y zero x at = inr (refl, sym (same_Some y x at))
get_either [] y (suc i) x at = absurd cc
get_either (z ∷ xs) y zero x at = inl at
get_either (z ∷ xs) y (suc i) x at = elim (get_either xs y i x at) [
  | inl there ↦ inl there
  | inr last ↦ inr (ap suc last.0, last.1)
]

-- ---- members

-- as a set has its members
abbrev pub Stands : List ℕ → ℕ → Type 0
Stands list x = (at : ℕ) × (at < length list) × (slice_index list at ≡ x)

pub is_in : (list : List ℕ) (x : ℕ) → Stands list x → (place : ℕ) × (slice_get list place ≡ Some x)
is_in list x stands =
    (stands.0, slice_get-get_or list stands.0 0 stands.1 ∙ ap (λ (n : ℕ). Some n) stands.2)

pub stands_in : (list : List ℕ) (x : ℕ) → (place : ℕ) × (slice_get list place ≡ Some x) → Stands list x
stands_in list x is = (is.0, slice_get_within list is.0 x is.1, get_or_from_slice_get list is.0 x 0 is.1)
