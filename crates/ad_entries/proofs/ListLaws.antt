-- What is left of a list from a place on, and truth values that are one.
use Rattle.std.proofs.Common.{◌≡◌, ℕ, zero, suc, ◌+◌, ◌-◌, ◌<◌, Bool, true, false, ◌||◌}
use Rattle.std.proofs.Common.{List, [], ◌∷◌, length, drop, get_or}
use Rattle.std.proofs.Common.{refl, sym, subst, ap, ◌∙◌, arith}
use Rattle.std.specs.Prelude.{◌==◌}
use Rattle.std.specs.List.{AllByRecursion}
use Rattle.std.proofs.lemmas.Bool.{both_ways}
use Rattle.std.proofs.lemmas.Bool.Decides.{nat_tests}
use Rattle.std.proofs.lemmas.List.{drop_more}

-- what stands at the place, and the rest
pub from_here : {X : Type 0} → (xs : List X) (i : ℕ) (x : X) → i < length xs → x ≡ get_or xs i x → drop i xs ≡ x
    ∷ drop (i + 1) xs
from_here xs i x lt is = drop_more xs i x lt ∙ ap (λ y. y ∷ drop (i + 1) xs) (sym is)

-- what holds of each holds of the one at the place
pub all_at : {X : Type 0} → (P : X → Type 0) (xs : List X) (i : ℕ) (x : X) → AllByRecursion P xs → i < length xs → x
    ≡ get_or xs i x → P x
all_at P [] i x all lt is = absurd (omega (arith, lt))
all_at P (y ∷ ys) zero x all lt is = subst P (sym is) all.0
all_at P (y ∷ ys) (suc i) x all lt is = all_at P ys i x all.1 (omega (arith, lt)) is

-- two truth values that are true at once
pub both_true : (a b : Bool) → (a ≡ true → b ≡ true) → (b ≡ true → a ≡ true) → a ≡ b
both_true true b to from = sym (to refl)
both_true false true to from = from refl
both_true false false to from = refl

-- ---- truth values
pub or_false : (a b : Bool) → a ≡ false → b ≡ false → a || b ≡ false
or_false true b first second = first
or_false false b first second = second

pub or_true : (a : Bool) → (a || true) ≡ true
or_true true = refl
or_true false = refl

pub or_none : (a : Bool) → (a || false) ≡ a
or_none true = refl
or_none false = refl

pub neither : (a b : Bool) → a || b ≡ false → (a ≡ false) × (b ≡ false)
neither true b lacks = absurd (both_ways true lacks refl)
neither false b lacks = (refl, lacks)

same_place : (k j : ℕ) → (k == j) ≡ true → k ≡ j
same_place k j is = grind (arith, nat_tests)

pub apart : (k j : ℕ) → (k ≡ j → ⊥) → (k == j) ≡ false
apart k j not = by_test (k == j) refl
  where
    by_test : (test : Bool) → (k == j) ≡ test → (k == j) ≡ false
    by_test true is = absurd (not (same_place k j is))
    by_test false is = is

-- what holds of each holds of those that are left where one is taken
pub all_by_place : {X : Type 0} → (P : X → Type 0) (xs : List X) → ((i : ℕ) (d : X) → i < length xs
    → P (get_or xs i d)) → AllByRecursion P xs
all_by_place P [] each = tt
all_by_place P (x ∷ xs) each =
    (each 0 x (omega arith), all_by_place P xs (λ i d lt. each (suc i) d (omega (arith, lt))))

pub all_get : {X : Type 0} → (P : X → Type 0) (xs : List X) (i : ℕ) (d : X) → AllByRecursion P xs → i < length xs
    → P (get_or xs i d)
all_get P [] i d all lt = absurd (omega (arith, lt))
all_get P (x ∷ xs) zero d all lt = all.0
all_get P (x ∷ xs) (suc i) d all lt = all_get P xs i d all.1 (omega (arith, lt))

-- What holds of each holds of those that are left where one was taken and the last one stands in its place.
pub all_left : {X : Type 0} → (P : X → Type 0) (old new : List X) (i : ℕ) → AllByRecursion P old
    → length new + 1 ≡ length old
    → ((d : X) → i + 1 < length old → get_or new i d ≡ get_or old (length old - 1) d)
    → ((k : ℕ) (d : X) → (k ≡ i → ⊥) → k + 1 < length old → get_or new k d ≡ get_or old k d)
    → AllByRecursion P new
all_left {X} P old new i all long at others = all_by_place P new (λ k d lt. by k d lt (k == i) refl)
  where
    eq_test : (k j : ℕ) → k ≡ j → (k == j) ≡ true
    eq_test k j e = grind (arith, nat_tests)

    by : (k : ℕ) (d : X) → k < length new → (test : Bool) → (k == i) ≡ test → P (get_or new k d)
    by k d lt true is =
        let here : k ≡ i = same_place k i is in
        subst P (sym (ap (λ (n : ℕ). get_or new n d) here ∙ at d (omega (arith, lt, long, here))))
        (all_get P old (length old - 1) d all (omega (arith, lt, long)))
    by k d lt false is =
        subst P (sym (others k d (λ (e : k ≡ i). absurd (both_ways (k == i) is (eq_test k i e)))
        (omega (arith, lt, long)))) (all_get P old k d all (omega (arith, lt, long)))
