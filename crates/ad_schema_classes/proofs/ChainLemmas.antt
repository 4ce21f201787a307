-- A step along the chain of a class.
use Rattle.std.proofs.Common.{◌≡◌, ℕ, zero, suc, ◌-◌, ◌<◌, Bool, true, false, List, length, map, Option, Some, None}
use Rattle.std.proofs.Common.{[], ◌∷◌, refl, ap, arith}
use Rattle.std.specs.List.{list_any}
use Rattle.std.specs.Option.{option_map_or}
use Rattle.std.proofs.lemmas.List.{length-map}
use Rattle.ad_schema_classes.specs.declared.links.ClassLinks.{ClassLinks}
use Rattle.ad_schema_classes.specs.Rows.{aboves}
use Rattle.ad_schema_classes.specs.Chains.{option_at, chain_within, ends_within, first_along, chain}

pub chain_starts : {A : Type 0} (P : List ℕ → A) (links : List ClassLinks) (class : ℕ)
    → P (chain_within (aboves links) (length links) class) ≡ P (chain (aboves links) class)
unfolding chain
chain_starts P links class = rw (length-map links (λ (link : ClassLinks). link.above)) refl

-- ---- what some class of the chain passes

pub any_first : (p : ℕ → Bool) (above : List (Option ℕ)) (n class : ℕ) → 0 < n → p class ≡ true
    → list_any p (chain_within above n class) ≡ true
unfolding chain_within
any_first p above zero class some is = absurd (omega arith)
any_first p above (suc n) class some is = rw is refl

pub any_more : (p : ℕ → Bool) (above : List (Option ℕ)) (n class superior : ℕ) → 0 < n → p class ≡ false
    → option_at above class ≡ Some superior
    → list_any p (chain_within above n class) ≡ list_any p (chain_within above (n - 1) superior)
unfolding chain_within
any_more p above zero class superior some not is = absurd (omega arith)
any_more p above (suc n) class superior some not is = let less : suc n - 1 ≡ n = omega arith in rw (not, is, less) refl

pub any_last : (p : ℕ → Bool) (above : List (Option ℕ)) (n class : ℕ) → 0 < n → p class ≡ false
    → option_at above class ≡ None → list_any p (chain_within above n class) ≡ false
unfolding chain_within
any_last p above zero class some not is = absurd (omega arith)
any_last p above (suc n) class some not is = rw (not, is) refl

pub any_done : (p : ℕ → Bool) (above : List (Option ℕ)) (n class : ℕ) → n ≡ 0
    → list_any p (chain_within above n class) ≡ false
unfolding chain_within
any_done p above n class is = rw is refl

-- ---- the first that a class of the chain has

pub along_first : (options above : List (Option ℕ)) (n class found : ℕ) → 0 < n → option_at options class ≡ Some found
    → first_along options (chain_within above n class) ≡ Some found
unfolding chain_within first_along
along_first options above zero class found some is = absurd (omega arith)
along_first options above (suc n) class found some is = rw is refl

pub along_more : (options above : List (Option ℕ)) (n class superior : ℕ) → 0 < n → option_at options class ≡ None
    → option_at above class ≡ Some superior
    → first_along options (chain_within above n class) ≡ first_along options (chain_within above (n - 1) superior)
unfolding chain_within first_along
along_more options above zero class superior some none is = absurd (omega arith)
along_more options above (suc n) class superior some none is = let less : suc n - 1 ≡ n = omega arith
    in rw (none, is, less) refl

pub along_last : (options above : List (Option ℕ)) (n class : ℕ) → 0 < n → option_at options class ≡ None
    → option_at above class ≡ None → first_along options (chain_within above n class) ≡ None
unfolding chain_within first_along
along_last options above zero class some none is = absurd (omega arith)
along_last options above (suc n) class some none is = rw (none, is) refl

pub along_done : (options above : List (Option ℕ)) (n class : ℕ) → n ≡ 0
    → first_along options (chain_within above n class) ≡ None
unfolding chain_within first_along
along_done options above n class is = rw is refl

-- ---- the class, and then the chain of the one above

chain_more : (above : List (Option ℕ)) (n class : ℕ) → ends_within above n class ≡ true → chain_within above n class
    ≡ chain_within above (suc n) class
unfolding chain_within ends_within
chain_more above zero class ends = absurd cc
chain_more above (suc n) class ends = ap (λ (l : List ℕ). class ∷ l)
    (by_above (chain_more above n) (option_at above class) refl)
  where
    by_above : ((a : ℕ) → ends_within above n a ≡ true → chain_within above n a ≡ chain_within above (suc n) a)
        → (next : Option ℕ) → option_at above class ≡ next
        → option_map_or (chain_within above n) (option_at above class) [] ≡ option_map_or (chain_within above (suc n))
        (option_at above class) []
    by_above more None is = rw is refl
    by_above more (Some a) is = let rest : ends_within above n a ≡ true = rw is at ends in rw is (more a rest)

within_step : (above : List (Option ℕ)) (n m class : ℕ) → n ≡ suc m → ends_within above n class ≡ true
    → chain_within above n class ≡ class ∷ option_map_or (chain_within above n) (option_at above class) []
unfolding chain_within ends_within
within_step above n m class is ends = rw is (ap (λ (l : List ℕ). class ∷ l) (by_above (option_at above class) refl))
  where
    by_above : (next : Option ℕ) → option_at above class ≡ next → option_map_or (chain_within above m)
        (option_at above class) [] ≡ option_map_or (chain_within above (suc m)) (option_at above class) []
    by_above None none = rw none refl
    by_above (Some a) some = let rest : ends_within above m a ≡ true = rw (is, some) at ends
        in rw some (chain_more above m a rest)

-- a chain that ends is the class, and then the chain of the one above
pub chain_step : (above : List (Option ℕ)) (class : ℕ) → class < length above → ends_within above (length above) class
    ≡ true → chain above class ≡ class ∷ option_map_or (chain above) (option_at above class) []
unfolding chain
chain_step above class lt ends = within_step above (length above) (length above - 1) class (omega arith) ends
