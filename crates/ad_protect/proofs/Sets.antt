-- Numbers in a list, and sets to which more numbers are taken.
use Rattle.std.proofs.Common.{◌≡◌, ℕ, zero, suc, ◌<◌, Bool, true, false, List, [], ◌∷◌, ◌++◌, length, get_or, inl}
use Rattle.std.proofs.Common.{inr, refl, sym, ap, ◌∙◌, arith}
use Rattle.std.specs.Prelude.{nat_eq, ◌||◌}
use Rattle.std.specs.List.{list_any}
use Rattle.std.proofs.lemmas.Bool.{eqb-true, eqb-false, ne_eqb, eq-eqb, cases_Bool, false≢true, both_ways, or_cases}
use Rattle.std.proofs.lemmas.Bool.{or_left, or_right}
use Rattle.std.proofs.lemmas.List.{append_assoc, append-nil}
use Rattle.std.proofs.lemmas.List.Folds.{list_any-append}
use Rattle.indexmap.specs.IndexSet.{insert_key}
use Rattle.ad_dir_model.specs.Protection.{has}
use Rattle.ad_protect.specs.Spreading.{Takes}

-- ---- numbers in a list

pub eq_either_way : (a b : ℕ) → nat_eq a b ≡ nat_eq b a
eq_either_way a b =
    elim (cases_Bool (nat_eq b a)) [
      | inl same ↦ rw same (eq-eqb a b (sym (eqb-true b a same)))
      | inr apart ↦ rw apart (ne_eqb a b (λ (e : a ≡ b). eqb-false b a apart (sym e)))
    ]

pub has_append : (xs ys : List ℕ) (n : ℕ) → has (xs ++ ys) n ≡ (has xs n || has ys n)
has_append xs ys n = list_any-append (λ other. nat_eq other n) xs ys

pub or_false : (b : Bool) → b ≡ (b || false)
or_false true = refl
or_false false = refl

pub member_has : (set : List ℕ) (n : ℕ) → list_any (nat_eq n) set ≡ has set n
member_has [] n = refl
member_has (x ∷ xs) n = ap (λ (b : Bool). b || list_any (nat_eq n) xs) (eq_either_way n x)
    ∙ ap (λ (b : Bool). nat_eq x n || b) (member_has xs n)

pub has_at : (set : List ℕ) (i : ℕ) → i < length set → has set (get_or set i 0) ≡ true
has_at [] i less = absurd (omega (arith, less))
has_at (x ∷ xs) zero less = or_left (nat_eq x x) (has xs x) (eq-eqb x x refl)
has_at (x ∷ xs) (suc i) less =
    let behind : i < length xs = omega (arith, less) in
    or_right (nat_eq x (get_or xs i 0)) (has xs (get_or xs i 0)) (has_at xs i behind)

-- where a number of the list stands
pub place_in : (set : List ℕ) (n : ℕ) → has set n ≡ true → (i : ℕ) × (i < length set) × (get_or set i 0 ≡ n)
place_in [] n is = absurd (false≢true is)
place_in (x ∷ xs) n is =
    elim (or_cases (nat_eq x n) (has xs n) is) [
      | inl here ↦ (0, omega arith, eqb-true x n here)
      | inr behind ↦
          let found = place_in xs n behind in
          let less : found.0 < length xs = found.1 in
          (suc found.0, omega (arith, less), found.2)
    ]

-- ---- taking

pub takes_none : (test : ℕ → Bool) (set : List ℕ) → ((n : ℕ) → test n ≡ false) → Takes test set set
takes_none test set none = record {
  others = [];
  is = sym (append-nil set);
  each = λ n is. absurd (false≢true is);
  all = λ n is. absurd (both_ways (test n) (none n) is);
}

-- what was in the set stays
pub takes_keep : (test : ℕ → Bool) (old new : List ℕ) (n : ℕ) → Takes test old new → has old n ≡ true → has new n ≡ true
takes_keep test old new n t is = ap (λ (set : List ℕ). has set n) t.is ∙ has_append old t.others n
    ∙ or_left (has old n) (has t.others n) is

pub takes_more : (first second : ℕ → Bool) (old mid new : List ℕ) → Takes first old mid → Takes second mid new
    → Takes (λ n. first n || second n) old new
takes_more first second old mid new t u = record {
  others = t.others ++ u.others;
  is = u.is ∙ ap (λ (set : List ℕ). set ++ u.others) t.is ∙ append_assoc old t.others u.others;
  each = λ n is. elim (or_cases (has t.others n) (has u.others n) (sym (has_append t.others u.others n) ∙ is)) [
    | inl a ↦ or_left (first n) (second n) (t.each n a)
    | inr b ↦ or_right (first n) (second n) (u.each n b)
  ];
  all = λ n is. elim (or_cases (first n) (second n) is) [
    | inl a ↦ takes_keep second mid new n u (t.all n a)
    | inr b ↦ u.all n b
  ];
}

pub takes_same : (first second : ℕ → Bool) (old new : List ℕ) → ((n : ℕ) → first n ≡ second n) → Takes first old new
    → Takes second old new
takes_same first second old new same t = record {
  others = t.others;
  is = t.is;
  each = λ n is. sym (same n) ∙ t.each n is;
  all = λ n is. t.all n (same n ∙ is);
}

-- what the set of keys takes
pub takes_key : (old new : List ℕ) (number : ℕ) → new ≡ insert_key nat_eq old number → Takes (nat_eq number) old new
takes_key old new number put =
    elim (cases_Bool (list_any (nat_eq number) old)) [
      | inl there ↦
          let same : new ≡ old = rw there at put in
          let in_old : has old number ≡ true = sym (member_has old number) ∙ there in
          record {
            others = [];
            is = same ∙ sym (append-nil old);
            each = λ n e. absurd (false≢true e);
            all = λ n e. ap (λ (set : List ℕ). has set n) same ∙ ap (has old) (sym (eqb-true number n e)) ∙ in_old;
          }
      | inr new_one ↦
          let longer : new ≡ old ++ number ∷ [] = rw new_one at put in
          record {
            others = number ∷ [];
            is = longer;
            each = λ n e. elim (or_cases (nat_eq number n) false e)
                [ inl here ↦ here | inr never ↦ absurd (false≢true never) ];
            all = λ n e. ap (λ (set : List ℕ). has set n) longer ∙ has_append old (number ∷ []) n
                ∙ or_right (has old n) (has (number ∷ []) n) (or_left (nat_eq number n) false e);
          }
    ]
