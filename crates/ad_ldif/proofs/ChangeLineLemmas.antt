-- The searches of a change record's line, on lists.
use Rattle.std.proofs.Common.{◌≡◌, inl, inr, ℕ, suc, ◌+◌, ◌<◌, ◌≤◌, Bool, true, false, cond, ltb, not, ◌&&◌, List, []}
use Rattle.std.proofs.Common.{◌∷◌, length, Option, Some, None, refl, sym, ap, ◌∙◌, arith}
use Rattle.std.specs.Option.{is_some}
use Rattle.std.specs.List.{list_all, position, position_or_len}
use Rattle.std.proofs.lemmas.Grind.{common_steps}
use Rattle.std.proofs.lemmas.Bool.{cases_lt, lt-ltb, le-ltb}
use Rattle.std.proofs.lemmas.Bool.Decides.{nat_tests}
use Rattle.std.proofs.lemmas.List.Sums.{prefix_len-le-length}
use Rattle.ad_ldif.specs.Fields.{is_name, is_name_byte}
use Rattle.ad_ldif.specs.Lines.{is_empty}

pub ends_there : (p : ℕ → Bool) (xs : List ℕ) (n : ℕ) → position p xs ≡ Some n → n ≡ position_or_len p xs
ends_there p xs n e = grind (arith, common_steps)

pub never_ends : (p : ℕ → Bool) (xs : List ℕ) → position p xs ≡ None → length xs ≡ position_or_len p xs
never_ends p xs e =
    let most : position_or_len p xs ≤ length xs = prefix_len-le-length (λ b. not (p b)) xs in
    let least : length xs ≤ position_or_len p xs = grind (arith, nat_tests) in
    omega arith

-- ---- names

none_of : (b : Bool) (n : ℕ) → not (is_some (cond b (Some n) None)) ≡ not b
none_of true n = refl
none_of false n = refl

all_by : (p : Bool) (rest : Bool) (n m : ℕ) → rest ≡ not (ltb n m) → (p && rest)
    ≡ not (ltb (cond (not (not p)) (1 + n) 0) (suc m))
all_by true rest n m e = elim (cases_lt n m) [
  | inl lt ↦ e ∙ ap not (lt-ltb n m lt ∙ sym (lt-ltb (1 + n) (suc m) (omega (arith, lt))))
  | inr le ↦ e ∙ ap not (le-ltb n m le ∙ sym (le-ltb (1 + n) (suc m) (omega (arith, le))))
]
all_by false rest n m e = sym (ap not (lt-ltb 0 (suc m) (omega arith)))

all_names : (xs : List ℕ) → list_all is_name_byte xs
    ≡ not (ltb (position_or_len (λ b. not (is_name_byte b)) xs) (length xs))
all_names [] = refl
all_names (x ∷ xs) = all_by (is_name_byte x) (list_all is_name_byte xs) _ _ (all_names xs)

pub no_end : (xs : List ℕ) → not (is_some (position (λ b. not (is_name_byte b)) xs)) ≡ list_all is_name_byte xs
no_end xs = none_of (ltb (position_or_len (λ b. not (is_name_byte b)) xs) (length xs)) _ ∙ sym (all_names xs)

pub name_is : (xs : List ℕ) → is_empty xs ≡ false → not (is_some (position (λ b. not (is_name_byte b)) xs)) ≡ is_name xs
name_is [] e = absurd cc
name_is (x ∷ xs) e = no_end (x ∷ xs)

pub other : (a b : Bool) → a ≡ not b → b ≡ not a
other true true e = e
other true false e = refl
other false true e = refl
other false false e = e
