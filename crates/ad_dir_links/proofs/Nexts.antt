-- The holder that a number of a pair has, behind that of the target alone.
use Rattle.std.proofs.Common.{◌≡◌, ℕ, ◌-◌, ◌<◌, ◌≤◌, Option, Result, Ok, Err, sym, subst, arith}
use Rattle.std.specs.Option.{IfSome, IsSomeAnd}
use Rattle.std.specs.Result.{OkIff, result_ok}
use Rattle.ad_dir_links.specs.Counted.{pair_key}

-- a number that is above that of the pair has a greater holder
pub above_pair : {E : Type 0} (r : Result ℕ E) (o : Option ℕ) (target above first pair key : ℕ) → first
    ≡ pair_key target 0 → pair ≡ pair_key target above → pair < key
    → OkIff r (key - first < 4294967296) (key - first) → o ≡ result_ok r → IfSome o (λ holder. above < holder)
unfolding pair_key
above_pair (Ok x) o target above first pair key is_first is_pair more fits is =
    subst (λ (found : Option ℕ). IfSome found (λ holder. above < holder)) (sym is)
    (let value = fits.1 in omega (arith, is_first, is_pair, more, value))
above_pair (Err e) o target above first pair key is_first is_pair more fits is =
    subst (λ (found : Option ℕ). IfSome found (λ holder. above < holder)) (sym is) tt

-- and one that isn't above that of another pair no greater one
pub within_pair : {E : Type 0} (r : Result ℕ E) (o : Option ℕ) (target holder first pair key : ℕ) → first
    ≡ pair_key target 0 → key ≤ pair_key target holder → holder < 4294967296
    → OkIff r (key - first < 4294967296) (key - first) → o ≡ result_ok r → IsSomeAnd o (λ next. next ≤ holder)
unfolding pair_key
within_pair (Ok x) o target holder first pair key is_first within small fits is =
    subst (λ (found : Option ℕ). IsSomeAnd found (λ next. next ≤ holder)) (sym is)
    (let value = fits.1 in omega (arith, is_first, within, small, value))
within_pair (Err e) o target holder first pair key is_first within small fits is
    = absurd (fits (omega (arith, is_first, within, small)))
