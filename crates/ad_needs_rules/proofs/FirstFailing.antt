-- What is known where no check of a list fails.
use Rattle.std.proofs.Common.{◌≡◌, true, false, List, [], ◌∷◌, ◌++◌, Some, None, inl, inr, refl, sym}
use Rattle.std.specs.List.{AllByRecursion, flat_map}
use Rattle.std.proofs.lemmas.Bool.{cases_Bool}
use Rattle.std.proofs.lemmas.Option.{none-some}
use Rattle.ad_needs_rules.specs.Checks.{Refusal, Check, first_failing}

-- the first one holds, and none of the others fails
pub head_holds : (c : Check) (cs : List Check) → first_failing (c ∷ cs) ≡ None → (c.holds ≡ true)
    × (first_failing cs ≡ None)
unfolding first_failing
head_holds c cs none =
    elim (cases_Bool c.holds) [
      | inl holds ↦ (holds, rw holds at none)
      | inr fails ↦ absurd (none-some c.refusal (sym (rw fails at none)))
    ]

-- of two lists one after the other
pub both_hold : (xs ys : List Check) → first_failing (xs ++ ys) ≡ None → (first_failing xs ≡ None)
    × (first_failing ys ≡ None)
unfolding first_failing
both_hold [] ys none = (refl, none)
both_hold (c ∷ cs) ys none =
    let head = head_holds c (cs ++ ys) none in
    let others = both_hold cs ys head.1 in
    (rw head.0 others.0, others.1)

-- of a list for each of some
pub each_holds : {A : Type 0} (f : A → List Check) (xs : List A) → first_failing (flat_map f xs) ≡ None
    → AllByRecursion (λ (x : A). first_failing (f x) ≡ None) xs
each_holds f [] none = tt
each_holds f (x ∷ xs) none = let parts = both_hold (f x) (flat_map f xs) none in (parts.0, each_holds f xs parts.1)

-- ---- the other way

pub head_passes : (c : Check) (cs : List Check) → c.holds ≡ true → first_failing (c ∷ cs) ≡ first_failing cs
unfolding first_failing
head_passes c cs holds = rw holds refl

pub head_fails : (c : Check) (cs : List Check) → c.holds ≡ false → first_failing (c ∷ cs) ≡ Some c.refusal
unfolding first_failing
head_fails c cs fails = rw fails refl

pub all_pass : (xs ys : List Check) → first_failing xs ≡ None → first_failing (xs ++ ys) ≡ first_failing ys
unfolding first_failing
all_pass [] ys none = refl
all_pass (c ∷ cs) ys none = let head = head_holds c cs none in rw head.0 (all_pass cs ys head.1)

pub one_fails : (xs ys : List Check) (r : Refusal) → first_failing xs ≡ Some r → first_failing (xs ++ ys) ≡ Some r
unfolding first_failing
one_fails [] ys r some = absurd (none-some r some)
one_fails (c ∷ cs) ys r some =
    elim (cases_Bool c.holds) [
      | inl holds ↦ rw holds (one_fails cs ys r (rw holds at some))
      | inr fails ↦ rw fails (rw fails at some)
    ]
