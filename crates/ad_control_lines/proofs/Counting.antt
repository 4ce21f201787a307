-- How many nodes are told before one, and its number.
use Rattle.std.proofs.Common.{◌≡◌, ◌∙◌, ℕ, zero, suc, ◌+◌, ◌<◌, ◌≤◌, ◌⊎◌, inl, inr, if◌then◌else◌, Option, Some, None}
use Rattle.std.proofs.Common.{List, [], ◌∷◌, ◌++◌, length, sym, ap, arith}
use Rattle.std.specs.Prelude.{is_some, slice_index}
use Rattle.std.proofs.Math.ListN.{get_or-append}
use Rattle.std.proofs.lemmas.Bool.{cases_eq}
use Rattle.std.proofs.lemmas.List.{get_or_at}
use Rattle.ad_chains.specs.declared.ways.Way.{Way}
use Rattle.ad_chains.specs.Ways.{way_at}
use Rattle.ad_control.specs.Lines.{told_below, number_of}

-- no more than stand before it
pub told_few : (ways : List (Option Way)) (n : ℕ) → told_below ways n ≤ n
unfolding told_below
told_few ways zero = omega arith
told_few ways (suc n) = by_way (way_at ways n) (told_few ways n)
  where
    by_way : (way : Option Way) → told_below ways n ≤ n
        → told_below ways n + (if is_some way then 1 else 0) ≤ suc n
    by_way None few = omega (arith, few)
    by_way (Some way) few = omega (arith, few)

-- one node more
pub told_more : (ways : List (Option Way)) (n : ℕ)
    → told_below ways (n + 1) ≡ told_below ways n + (if is_some (way_at ways n) then 1 else 0)
unfolding told_below
told_more ways n = ap (told_below ways) next
  where
    next : n + 1 ≡ suc n
    next = omega arith

pub numbers_more : (ways : List (Option Way)) (numbers : List ℕ) (n : ℕ) → length numbers ≡ n
    → ((y : ℕ) → y < n → slice_index numbers y ≡ number_of ways y) → (y : ℕ) → y < n + 1
    → slice_index (numbers ++ number_of ways n ∷ []) y ≡ number_of ways y
numbers_more ways numbers n long each y low = by_place (cases_eq y n)
  where
    by_place : (y ≡ n) ⊎ (y ≡ n → ⊥) → slice_index (numbers ++ number_of ways n ∷ []) y ≡ number_of ways y
    by_place (inl last) =
        ap (slice_index (numbers ++ number_of ways n ∷ [])) last
        ∙ get_or_at numbers (number_of ways n) [] 0 n long ∙ ap (number_of ways) (sym last)
    by_place (inr before) =
        let lt : y < n = omega (arith, low, before) in
        get_or-append numbers (number_of ways n ∷ []) 0 y (omega (arith, lt, long)) ∙ each y lt
