-- Lists at a place, and the first element that passes a test.
use Rattle.std.proofs.Common.{◌≡◌, ℕ, zero, suc, ◌+◌, ◌<◌, Bool, true, false, Option, None, Some, cond, List, [], ◌∷◌}
use Rattle.std.proofs.Common.{length, refl, sym, subst, arith}
use Rattle.std.specs.List.{position_from, AllByRecursion}
use Rattle.sd_pool.specs.Found.{IsFirst, FirstPasses, PlaceWithin}

-- the first place that a search finds, where the list begins at place i
FoundFrom : {X : Type 0} → (X → Bool) → ℕ → List X → Option ℕ → Type 0
FoundFrom t i xs None = AllByRecursion (λ x. t x ≡ false) xs
FoundFrom t i xs (Some k) = (place : ℕ) × ((k ≡ i + place) × IsFirst t place xs)

found_after : {X : Type 0} (t : X → Bool) (i : ℕ) (x : X) (xs : List X) (found : Option ℕ) → t x ≡ false
    → FoundFrom t (i + 1) xs found → FoundFrom t i (x ∷ xs) found
unfolding FoundFrom
found_after t i x xs None other f = (other, f)
found_after t i x xs (Some k) other f = let at : k ≡ (i + 1) + f.0 = f.1.0 in (suc f.0, (omega arith, (other, f.1.1)))

found_from : {X : Type 0} (t : X → Bool) (i : ℕ) (xs : List X) → FoundFrom t i xs (position_from t i xs)
unfolding FoundFrom
found_from t i [] = tt
found_from {X} t i (x ∷ xs) = by_test (t x) refl (found_from t (i + 1) xs)
  where
    by_test : (b : Bool) → t x ≡ b → FoundFrom t (i + 1) xs (position_from t (i + 1) xs)
        → FoundFrom t i (x ∷ xs) (cond b (Some i) (position_from t (i + 1) xs))
    by_test true here rest = (0, (omega arith, here))
    by_test false other rest = found_after t i x xs (position_from t (i + 1) xs) other rest

pub first_passes : {X : Type 0} (t : X → Bool) (xs : List X) (found : Option ℕ) → found ≡ position_from t 0 xs
    → FirstPasses t found xs
unfolding FoundFrom
first_passes {X} t xs found is = placed found (subst (FoundFrom t 0 xs) (sym is) (found_from t 0 xs))
  where
    placed : (r : Option ℕ) → FoundFrom t 0 xs r → FirstPasses t r xs
    placed None f = f
    placed (Some k) f = let same : f.0 ≡ k = omega (arith, f.1.0) in subst (λ (n : ℕ). IsFirst t n xs) same f.1.1

pub first_within : {X : Type 0} (t : X → Bool) (place : ℕ) (xs : List X) → IsFirst t place xs → place < length xs
first_within t place [] h = absurd h
first_within t zero (x ∷ xs) h = omega arith
first_within t (suc place) (x ∷ xs) h = let rest : place < length xs = first_within t place xs h.1 in omega arith

pub place_within : {X : Type 0} (t : X → Bool) (found : Option ℕ) (xs : List X) → FirstPasses t found xs
    → PlaceWithin found xs
place_within t None xs h = tt
place_within t (Some place) xs h = first_within t place xs h
