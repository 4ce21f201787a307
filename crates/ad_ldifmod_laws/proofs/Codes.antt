-- No check of a change has the code 0.
use Rattle.std.proofs.Common.{◌≡◌, ℕ, ◌^◌, ◌<◌, List, [], ◌∷◌, ◌++◌, Some, subst, inl, inr}
use Rattle.std.specs.List.{AllByRecursion, flat_map}
use Rattle.std.proofs.lemmas.Bool.{cases_Bool}
use Rattle.std.proofs.lemmas.Option.{same_Some, none-some}
use Rattle.ad_ids.specs.declared.token.Token.{Token}
use Rattle.ad_dir_model.specs.Directory.{Directory}
use Rattle.ad_needs_rules.specs.Needs.{Alternative}
use Rattle.ad_needs_rules.specs.Checks.{Check, Refusal, code, hidden, missing, first_failing, all_met}

abbrev pub IsCode : ℕ → Type 0
IsCode number = (0 < number) × (number < 2 ^ 32)

abbrev pub IsProper : Refusal → Type 0
IsProper (code number) = IsCode number
IsProper (hidden rdns) = Unit {0}
IsProper (missing need) = Unit {0}

abbrev pub AreProper : List Check → Type 0
AreProper checks = AllByRecursion (λ (check : Check). IsProper check.refusal) checks

pub first_proper : (checks : List Check) (r : Refusal) → AreProper checks → first_failing checks ≡ Some r → IsProper r
unfolding first_failing
first_proper [] r each e = absurd (none-some r e)
first_proper (c ∷ checks) r each e = elim (cases_Bool c.holds) [
  | inl holds ↦ first_proper checks r each.1 (rw holds at e)
  | inr fails ↦ subst IsProper (same_Some c.refusal r (rw fails at e)) each.0
]

pub both_proper : (xs ys : List Check) → AreProper xs → AreProper ys → AreProper (xs ++ ys)
both_proper [] ys first second = second
both_proper (x ∷ xs) ys first second = (first.0, both_proper xs ys first.1 second)

pub each_proper : {A : Type 0} (f : A → List Check) (xs : List A) → ((x : A) → AreProper (f x))
    → AreProper (flat_map f xs)
each_proper f [] each = tt
each_proper f (x ∷ xs) each = both_proper (f x) (flat_map f xs) (each x) (each_proper f xs each)

pub met_proper : (dir : Directory) (token : Token) (requirements : List (List Alternative))
    → AreProper (all_met dir token requirements)
met_proper dir token [] = tt
met_proper dir token (r ∷ requirements) = (tt, met_proper dir token requirements)
