-- A set that is found class by class.
use Rattle.std.proofs.Common.{◌≡◌, ℕ, zero, suc, ◌+◌, ◌-◌, ◌<◌, ◌≤◌, ◌⊎◌, inl, inr, Bool, true, false, ◌||◌, List, []}
use Rattle.std.proofs.Common.{◌∷◌, ◌++◌, length, get_or, take, refl, sym, ap, subst, ◌∙◌, append_assoc, arith}
use Rattle.std.specs.Prelude.{slice_set, ◌==◌}
use Rattle.std.specs.List.{list_any}
use Rattle.std.specs.Cmp.{both_ways}
use Rattle.std.proofs.Math.ListN.{length-set}
use Rattle.std.proofs.lemmas.Bool.{or_cases, or_right}
use Rattle.std.proofs.lemmas.Bool.Decides.{nat_tests}
use Rattle.std.proofs.lemmas.Grind.{get_or-set_at}
use Rattle.std.proofs.lemmas.List.{append-nil, take_more, take-append-le, take_all, length-append, get_or-set_other}
use Rattle.std.proofs.lemmas.List.Folds.{list_any-append}
use Rattle.ad_schema_classes.specs.Chains.{contains, list_at, set_of, IsClosedSet, IsLeastSet}
use Rattle.ad_schema_classes.specs.Flags.{flag_at}
use Rattle.ad_schema_classes.specs.Work.{is_free, free_count, Noted, IsSetSoFar}
use Rattle.ad_schema_classes.proofs.SetLaws.{set_is_least}

or_left : (a b : Bool) → a ≡ true → a || b ≡ true
or_left a b e = rw e refl

or_none : (a b : Bool) → b ≡ false → a ≡ a || b
or_none true b e = refl
or_none false b e = sym e

or_assoc : (a b c : Bool) → (a || b) || c ≡ a || (b || c)
or_assoc true b c = refl
or_assoc false b c = refl

same_place : (k j : ℕ) → (k == j) ≡ true → k ≡ j
same_place k j is = grind (arith, nat_tests)

differ : (k j : ℕ) → (k == j) ≡ false → j ≡ k → ⊥
differ k j not e = let same : (k == j) ≡ true = grind (arith, nat_tests) in let no : true ≡ false = sym same ∙ not in cc

-- ---- lists of places

contains_one : (k j : ℕ) → contains (k ∷ []) j ≡ (k == j)
contains_one k j = sym (or_none (k == j) false refl)

one_is : (k j : ℕ) → contains (k ∷ []) j ≡ true → k ≡ j
one_is k j has = same_place k j (sym (contains_one k j) ∙ has)

contains_both : (xs ys : List ℕ) (j : ℕ) → contains (xs ++ ys) j ≡ contains xs j || contains ys j
contains_both xs ys j = list_any-append (λ x. x == j) xs ys

in_first : (xs ys : List ℕ) (j : ℕ) → contains xs j ≡ true → contains (xs ++ ys) j ≡ true
in_first xs ys j has = contains_both xs ys j ∙ or_left (contains xs j) (contains ys j) has

in_second : (xs ys : List ℕ) (j : ℕ) → contains ys j ≡ true → contains (xs ++ ys) j ≡ true
in_second xs ys j has = contains_both xs ys j ∙ or_right (contains xs j) (contains ys j) has

in_either : (xs ys : List ℕ) (j : ℕ) → contains (xs ++ ys) j ≡ true → (contains xs j ≡ true) ⊎ (contains ys j ≡ true)
in_either xs ys j has = or_cases (contains xs j) (contains ys j) (sym (contains_both xs ys j) ∙ has)

contains_at : (xs : List ℕ) (n : ℕ) → n < length xs → contains xs (get_or xs n 0) ≡ true
contains_at [] n lt = absurd (omega (arith, lt))
contains_at (x ∷ xs) zero lt = let here : (x == x) ≡ true = grind (arith, nat_tests) in or_left (x == x) _ here
contains_at (x ∷ xs) (suc n) lt = or_right (x == get_or xs n 0) _ (contains_at xs n (omega (arith, lt)))

-- ---- one place

pub free_low : (row : List Bool) (k : ℕ) → is_free row k ≡ true → k < length row
unfolding is_free
free_low [] k is = absurd cc
free_low (x ∷ row) zero is = omega arith
free_low (x ∷ row) (suc k) is = let lt = free_low row k is in omega (arith, lt)

free_fewer : (row : List Bool) (k : ℕ) → is_free row k ≡ true → free_count (slice_set row k true) + 1 ≡ free_count row
unfolding is_free free_count
free_fewer [] k is = absurd cc
free_fewer (true ∷ row) zero is = absurd cc
free_fewer (false ∷ row) zero is = omega arith
free_fewer (x ∷ row) (suc k) is = let less = free_fewer row k is in omega (arith, less)

not_free : (row : List Bool) (k : ℕ) → is_free row k ≡ false → k < length row → flag_at row k ≡ true
unfolding is_free flag_at
not_free [] k is lt = absurd (omega (arith, lt))
not_free (true ∷ row) zero is lt = refl
not_free (false ∷ row) zero is lt = absurd cc
not_free (x ∷ row) (suc k) is lt = not_free row k is (omega (arith, lt))

flag_set : (row : List Bool) (k j : ℕ) → k < length row → flag_at (slice_set row k true) j ≡ flag_at row j || (k == j)
unfolding flag_at
flag_set row k j low = by_test (k == j) refl
  where
    by_test : (test : Bool) → (k == j) ≡ test → get_or (slice_set row k true) j false ≡ get_or row j false || test
    by_test true is = get_or-set_at row k j true false (sym (same_place k j is)) low
        ∙ sym (or_right (get_or row j false) true refl)
    by_test false is = get_or-set_other row k j true false (differ k j is) ∙ or_none (get_or row j false) false refl

pub note_done : (row : List Bool) (order longer : List ℕ) (k : ℕ) → is_free row k ≡ true → longer ≡ order ++ k ∷ []
    → Noted row order (k ∷ []) (slice_set row k true) longer
note_done row order longer k free behind = record {
  long = length-set row k true;
  flags = flags;
  more = k ∷ [];
  behind = behind;
  within = λ x has. (subst (λ (n : ℕ). n < length row) (one_is k x has) (free_low row k free), has);
  listed = λ j lt flag. or_cases (flag_at row j) (contains (k ∷ []) j) (sym (flags j lt) ∙ flag);
  fewer = free_fewer row k free;
}
  where
    flags : (j : ℕ) → j < length row → flag_at (slice_set row k true) j ≡ flag_at row j || contains (k ∷ []) j
    flags j lt = flag_set row k j (free_low row k free) ∙ ap (λ (b : Bool). flag_at row j || b) (sym (contains_one k j))

pub note_none : (row : List Bool) (order : List ℕ) (k : ℕ) → is_free row k ≡ false → Noted row order (k ∷ []) row order
note_none row order k taken = record {
  long = refl;
  flags = λ j lt. flags j lt (k == j) refl ∙ ap (λ (b : Bool). flag_at row j || b) (sym (contains_one k j));
  more = [];
  behind = sym (append-nil order);
  within = λ x has. absurd cc;
  listed = λ j lt flag. inl flag;
  fewer = omega arith;
}
  where
    flags : (j : ℕ) → j < length row → (test : Bool) → (k == j) ≡ test → flag_at row j ≡ flag_at row j || (k == j)
    flags j lt true is =
        let e : k ≡ j = same_place k j is in
        let set : flag_at row j ≡ true = subst (λ (n : ℕ). flag_at row n ≡ true) e
        (not_free row k taken (omega (arith, lt, e))) in
        rw set refl
    flags j lt false is = or_none (flag_at row j) (k == j) is

-- ---- the places of a list

pub noted_none : (row : List Bool) (order : List ℕ) → Noted row order [] row order
noted_none row order = record {
  long = refl;
  flags = λ j lt. or_none (flag_at row j) false refl;
  more = [];
  behind = sym (append-nil order);
  within = λ x has. absurd cc;
  listed = λ j lt flag. inl flag;
  fewer = omega arith;
}

pub noted_more : (row mid new : List Bool) (order longer longest list : List ℕ) (k : ℕ) → Noted row order list mid
    longer → Noted mid longer (k ∷ []) new longest → Noted row order (list ++ k ∷ []) new longest
noted_more row mid new order longer longest list k a b = record {
  long = b.long ∙ a.long;
  flags = λ j lt.
      b.flags j (omega (arith, lt, a.long)) ∙ ap (λ (f : Bool). f || contains (k ∷ []) j) (a.flags j lt)
      ∙ or_assoc (flag_at row j) (contains list j) (contains (k ∷ []) j)
      ∙ ap (λ (f : Bool). flag_at row j || f) (sym (contains_both list (k ∷ []) j));
  more = a.more ++ b.more;
  behind = b.behind ∙ ap (λ (l : List ℕ). l ++ b.more) a.behind ∙ append_assoc order a.more b.more;
  within = λ x has. within x (in_either a.more b.more x has);
  listed = λ j lt flag. listed j lt (b.listed j (omega (arith, lt, a.long)) flag);
  fewer = omega (arith, a.fewer, b.fewer, length-append a.more b.more);
}
  where
    within : (x : ℕ) → (contains a.more x ≡ true) ⊎ (contains b.more x ≡ true) → (x < length row)
        × (contains (list ++ k ∷ []) x ≡ true)
    within x (inl first) = let w = a.within x first in (w.0, in_first list (k ∷ []) x w.1)
    within x (inr second) = let w = b.within x second in (omega (arith, w.0, a.long), in_second list (k ∷ []) x w.1)

    before : (j : ℕ) → (flag_at row j ≡ true) ⊎ (contains a.more j ≡ true) → (flag_at row j ≡ true)
        ⊎ (contains (a.more ++ b.more) j ≡ true)
    before j (inl flag) = inl flag
    before j (inr first) = inr (in_first a.more b.more j first)

    listed : (j : ℕ) → j < length row → (flag_at mid j ≡ true) ⊎ (contains b.more j ≡ true) → (flag_at row j ≡ true)
        ⊎ (contains (a.more ++ b.more) j ≡ true)
    listed j lt (inl flag) = before j (a.listed j lt flag)
    listed j lt (inr second) = inr (in_second a.more b.more j second)

pub noted_all : (row new : List Bool) (order longer list : List ℕ) (n : ℕ) → length list ≤ n
    → Noted row order (take n list) new longer → Noted row order list new longer
noted_all row new order longer list n le noted = subst (λ (l : List ℕ). Noted row order l new longer)
    (take_all n list le) noted

pub noted_step : (row mid new : List Bool) (order longer longest list : List ℕ) (n : ℕ) → n < length list
    → Noted row order (take n list) mid longer → Noted mid longer (get_or list n 0 ∷ []) new longest
    → Noted row order (take (n + 1) list) new longest
noted_step row mid new order longer longest list n lt a b =
    rw (take_more list n 0 lt) (noted_more row mid new order longer longest (take n list) (get_or list n 0) a b)

-- ---- the set of a class

pub set_starts : (next : List (List ℕ)) (class : ℕ) (row new : List Bool) (order longer : List ℕ) → class
    < length next → length row ≡ length next → ((j : ℕ) → flag_at row j ≡ false) → order ≡ []
    → Noted row order (class ∷ []) new longer → IsSetSoFar next class new longer 0
set_starts next class row new order longer lt long blank none noted = record {
  long = noted.long ∙ long;
  has = noted.flags class (omega (arith, lt, long)) ∙ or_right (flag_at row class) (contains (class ∷ []) class)
      (contains_at (class ∷ []) 0 (omega arith));
  reached = λ x has. reached x (rw all at has);
  listed = λ x low flag. rw all (listed x (noted.listed x (omega (arith, low, long)) flag));
  done = λ x b has low names. absurd cc;
}
  where
    all : longer ≡ noted.more
    all = noted.behind ∙ ap (λ (l : List ℕ). l ++ noted.more) none

    reached : (x : ℕ) → contains noted.more x ≡ true → (x < length next) × (set_of next class x ≡ true)
    reached x has =
        let w = noted.within x has in
        let e : class ≡ x = one_is class x w.1 in (
          omega (arith, w.0, long),
          subst (λ (n : ℕ). set_of next class n ≡ true) e
              (set_is_least next class lt).closed.has,
        )

    listed : (x : ℕ) → (flag_at row x ≡ true) ⊎ (contains noted.more x ≡ true) → contains noted.more x ≡ true
    listed x (inl flag) = let no : true ≡ false = sym flag ∙ blank x in absurd cc
    listed x (inr has) = has

pub set_more : (next : List (List ℕ)) (class : ℕ) (row new : List Bool) (order longer list : List ℕ) (n : ℕ) → class
    < length next → n < length order → list ≡ list_at next (get_or order n 0)
    → IsSetSoFar next class row order n → Noted row order list new longer → IsSetSoFar next class new longer (n + 1)
set_more next class row new order longer list n lt some is so_far noted = record {
  long = noted.long ∙ so_far.long;
  has = flagged class (omega (arith, lt, so_far.long)) so_far.has;
  reached = λ x has. reached x (in_either order noted.more x (rw noted.behind at has));
  listed = λ x low flag. rw noted.behind (listed x low (noted.listed x (omega (arith, low, so_far.long)) flag));
  done = λ x b has low names. done x b low names (in_either (take n order) (found ∷ []) x (rw first at has));
}
  where
    found : ℕ
    found = get_or order n 0

    flagged : (j : ℕ) → j < length row → flag_at row j ≡ true → flag_at new j ≡ true
    flagged j low flag = noted.flags j low ∙ or_left (flag_at row j) (contains list j) flag

    first : take (n + 1) longer ≡ take n order ++ found ∷ []
    first = ap (take (n + 1)) noted.behind ∙ take-append-le (n + 1) order noted.more (omega (arith, some))
        ∙ take_more order n 0 some

    reached : (x : ℕ) → (contains order x ≡ true) ⊎ (contains noted.more x ≡ true) → (x < length next)
        × (set_of next class x ≡ true)
    reached x (inl old) = so_far.reached x old
    reached x (inr has) =
        let w = noted.within x has in
        let low : x < length next = omega (arith, w.0, so_far.long) in
        let at = so_far.reached found (contains_at order n some) in
        (low, (set_is_least next class lt).closed.goes_on found x at.0 low at.1 (rw is at w.1))

    listed : (x : ℕ) → x < length next → (flag_at row x ≡ true) ⊎ (contains noted.more x ≡ true)
        → contains (order ++ noted.more) x ≡ true
    listed x low (inl flag) = in_first order noted.more x (so_far.listed x low flag)
    listed x low (inr has) = in_second order noted.more x has

    done : (x b : ℕ) → b < length next → contains (list_at next x) b ≡ true → (contains (take n order) x ≡ true)
        ⊎ (contains (found ∷ []) x ≡ true) → flag_at new b ≡ true
    done x b low names (inl before) = flagged b (omega (arith, low, so_far.long)) (so_far.done x b before low names)
    done x b low names (inr here) =
        let e : found ≡ x = one_is found x here in
        let in_list : contains list b ≡ true = ap (λ (l : List ℕ). contains l b) (is ∙ ap (list_at next) e) ∙ names in
        noted.flags b (omega (arith, low, so_far.long)) ∙ or_right (flag_at row b) (contains list b) in_list

pub set_ends : (next : List (List ℕ)) (class : ℕ) (row : List Bool) (order : List ℕ) (n : ℕ) → class < length next
    → length order ≤ n → IsSetSoFar next class row order n → (j : ℕ) → j < length next → flag_at row j
    ≡ set_of next class j
set_ends next class row order n lt all so_far j low =
    both_ways (flag_at row j) (set_of next class j) (λ flag. (so_far.reached j (so_far.listed j low flag)).1)
    (λ has. (set_is_least next class lt).least (flag_at row) closed j low has)
  where
    whole : take n order ≡ order
    whole = take_all n order all

    closed : IsClosedSet next class (flag_at row)
    closed = record {
      has = so_far.has;
      goes_on = λ a b la lb flag names. so_far.done a b (rw whole (so_far.listed a la flag)) lb names;
    }

-- each step takes a class more from those that are left
pub work_less : (row new : List Bool) (order longer list : List ℕ) (n : ℕ) → n < length order
    → Noted row order list new longer → free_count new + (length longer - (n + 1)) < free_count row
    + (length order - n)
work_less row new order longer list n some noted =
    let long : length longer ≡ length order + length noted.more = ap length noted.behind
    ∙ length-append order noted.more in
    omega (arith, long, noted.fewer, some)
