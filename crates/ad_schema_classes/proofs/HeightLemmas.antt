-- How high a class stands.
use Rattle.std.proofs.Common.{◌≡◌, ℕ, zero, suc, ◌+◌, ◌-◌, ◌<◌, ◌≤◌, Bool, true, false, ltb, List, [], ◌∷◌, ◌++◌}
use Rattle.std.proofs.Common.{length, Option, Some, None, IfNone, unwrap_or, if◌then◌else◌, refl, sym, ap, subst, ◌∙◌}
use Rattle.std.proofs.Common.{arith}
use Rattle.std.specs.Prelude.{slice_set, ◌==◌}
use Rattle.std.specs.List.{slice_index_or}
use Rattle.std.proofs.lemmas.Bool.{ltb-true}
use Rattle.std.proofs.lemmas.Grind.{get_or-set_at}
use Rattle.std.proofs.lemmas.List.{get_or-set_other}
use Rattle.std.proofs.lemmas.Bool.Decides.{nat_tests}
use Rattle.ad_schema_classes.specs.Chains.{option_at, ends_within, endless_from, first_endless}
use Rattle.ad_schema_classes.specs.Heights.{IsHeight, height_at, AreHeights}

-- ---- more classes

ends_suc : (above : List (Option ℕ)) (n class : ℕ) → ends_within above n class ≡ true → ends_within above (suc n)
    class ≡ true
unfolding ends_within
ends_suc above zero class ends = absurd cc
ends_suc above (suc n) class ends = by_above (ends_suc above n) (option_at above class) refl
  where
    by_above : ((a : ℕ) → ends_within above n a ≡ true → ends_within above (suc n) a ≡ true) → (next : Option ℕ)
        → option_at above class ≡ next → ends_within above (suc (suc n)) class ≡ true
    by_above more None is = rw is refl
    by_above more (Some a) is = let rest : ends_within above n a ≡ true = rw is at ends in rw is (more a rest)

ends_add : (above : List (Option ℕ)) (n more class : ℕ) → ends_within above n class ≡ true
    → ends_within above (more + n) class ≡ true
ends_add above n zero class ends = let same : 0 + n ≡ n = omega arith in rw same ends
ends_add above n (suc more) class ends = let same : suc more + n ≡ suc (more + n) = omega arith
    in rw same (ends_suc above (more + n) class (ends_add above n more class ends))

-- what ends within some classes ends within more
pub ends_more : (above : List (Option ℕ)) (n m class : ℕ) → ends_within above n class ≡ true → n ≤ m
    → ends_within above m class ≡ true
ends_more above n m class ends le = let same : (m - n) + n ≡ m = omega arith
    in rw same at (ends_add above n (m - n) class ends)

-- what doesn't end within some classes doesn't within fewer
pub ends_fewer : (above : List (Option ℕ)) (n m class : ℕ) → ends_within above n class ≡ false → m ≤ n
    → ends_within above m class ≡ false
ends_fewer above n m class not le = by_test (ends_within above m class) refl
  where
    by_test : (test : Bool) → ends_within above m class ≡ test → test ≡ false
    by_test false is = refl
    by_test true is = let no : true ≡ false = sym (ends_more above m n class is le) ∙ not in absurd cc

-- ---- a step up

pub up : (above : List (Option ℕ)) (n class superior : ℕ) → option_at above class ≡ Some superior
    → ends_within above (suc n) class ≡ ends_within above n superior
unfolding ends_within
up above n class superior is = rw is refl

pub top : (above : List (Option ℕ)) (n class : ℕ) → option_at above class ≡ None → ends_within above (suc n) class
    ≡ true
unfolding ends_within
top above n class is = rw is refl

pub none_ends : (above : List (Option ℕ)) (class : ℕ) → ends_within above 0 class ≡ false
unfolding ends_within
none_ends above class = refl

-- so many steps up from a class
abbrev pub IsUp : List (Option ℕ) → ℕ → ℕ → ℕ → Type 0
IsUp above class steps at = (m : ℕ) → ends_within above (steps + m) class ≡ ends_within above m at

pub up_none : (above : List (Option ℕ)) (class : ℕ) → IsUp above class 0 class
up_none above class m = let same : 0 + m ≡ m = omega arith in rw same refl

pub up_more : (above : List (Option ℕ)) (class steps at superior : ℕ) → IsUp above class steps at → option_at above at
    ≡ Some superior → IsUp above class (steps + 1) superior
up_more above class steps at superior so_far is m =
    let same : steps + 1 + m ≡ steps + suc m = omega arith in
    rw same (so_far (suc m) ∙ up above m at superior is)

-- the height of a class that is so many steps below one whose height is known
pub height_from : (above : List (Option ℕ)) (class steps at height total : ℕ) → IsUp above class steps at
    → IsHeight above at height → 0 < height → total ≡ height + steps → IsHeight above class total
height_from above class steps at height total so_far is some sum =
    let whole : total ≡ steps + height = omega arith in
    let less : total - 1 ≡ steps + (height - 1) = omega arith in
    record {
      within = rw whole (so_far height ∙ is.within);
      not_sooner = rw less (so_far (height - 1) ∙ is.not_sooner);
    }

-- a class of which the walk came to the top
pub height_top : (above : List (Option ℕ)) (class steps at total : ℕ) → IsUp above class steps at → option_at above at
    ≡ None → total ≡ steps + 1 → IsHeight above class total
height_top above class steps at total so_far is sum =
    let less : total - 1 ≡ steps + 0 = omega arith in
    record {
      within = rw sum (so_far 1 ∙ top above 0 at is);
      not_sooner = rw less (so_far 0 ∙ none_ends above at);
    }

-- a class that is too far below
pub too_high : (above : List (Option ℕ)) (class steps at height n : ℕ) → IsUp above class steps at
    → IsHeight above at height → 0 < height → n < height + steps → ends_within above n class ≡ false
too_high above class steps at height n so_far is some many =
    ends_fewer above (steps + (height - 1)) n class (so_far (height - 1) ∙ is.not_sooner) (omega arith)

pub never_top : (above : List (Option ℕ)) (class steps at n : ℕ) → IsUp above class steps at → n ≡ steps
    → ends_within above n class ≡ false
never_top above class steps at n so_far is = let same : n ≡ steps + 0 = omega arith
    in rw same (so_far 0 ∙ none_ends above at)

-- the height of the class above
pub height_up : (above : List (Option ℕ)) (class height superior : ℕ) → IsHeight above class height → 0 < height
    → option_at above class ≡ Some superior → IsHeight above superior (height - 1)
height_up above class zero superior is some over = absurd (omega (arith, some))
height_up above class (suc zero) superior is some over =
    let no : true ≡ false = sym is.within ∙ up above 0 class superior over ∙ none_ends above superior in absurd cc
height_up above class (suc (suc n)) superior is some over =
    let less : suc (suc n) - 1 ≡ suc n = omega arith in
    let lesser : suc n - 1 ≡ n = omega arith in
    let sooner : ends_within above (suc n) class ≡ false = rw less at is.not_sooner in
    rw less record {
      within = sym (up above (suc n) class superior over) ∙ is.within;
      not_sooner = rw lesser (sym (up above n class superior over) ∙ sooner);
    }

-- ---- the heights that are known

pub none_by : {A : Type 0} (o : Option A) (P Q : Type 0) → (P → Q) → IfNone o P → IfNone o Q
none_by None P Q gives is = gives is
none_by (Some x) P Q gives is = tt

pub known_is : (above : List (Option ℕ)) (heights : List ℕ) (class height : ℕ) → AreHeights above heights → height
    ≡ height_at heights class → 0 < height → IsHeight above class height
known_is above heights class height are is some = rw is (are.known class (rw is at some))

pub none_known : (above : List (Option ℕ)) (heights : List ℕ) → ((k : ℕ) → height_at heights k ≡ 0)
    → AreHeights above heights
none_known above heights blank = record {
  known = λ class some. absurd (omega (arith, some, blank class));
  low = λ class. let none = blank class in omega arith;
}

set_at : (heights : List ℕ) (class height k : ℕ) → class < length heights → class ≡ k
    → height_at (slice_set heights class height) k ≡ height
unfolding height_at
set_at heights class height k lt same = get_or-set_at heights class k height 0 (sym same) lt

set_off : (heights : List ℕ) (class height k : ℕ) → (class ≡ k → ⊥) → height_at (slice_set heights class height) k
    ≡ height_at heights k
unfolding height_at
set_off heights class height k other = get_or-set_other heights class k height 0 (λ e. other (sym e))

pub known_more : (above : List (Option ℕ)) (heights : List ℕ) (class height : ℕ) → AreHeights above heights
    → IsHeight above class height → height ≤ length above → class < length heights
    → AreHeights above (slice_set heights class height)
known_more above heights class height are is low lt = record { known = known; low = lows }
  where
    differ : (k : ℕ) → (class == k) ≡ false → class ≡ k → ⊥
    differ k not e = let same : (class == k) ≡ true = grind (arith, nat_tests) in let no : true ≡ false = sym same
        ∙ not in cc

    known_by : (k : ℕ) (test : Bool) → (class == k) ≡ test → 0 < height_at (slice_set heights class height) k
        → IsHeight above k (height_at (slice_set heights class height) k)
    known_by k true same some = let e : class ≡ k = grind (arith, nat_tests)
        in rw (set_at heights class height k lt e) (subst (λ (n : ℕ). IsHeight above n height) e is)
    known_by k false other some =
        let same = set_off heights class height k (differ k other) in
        rw same (are.known k (rw same at some))

    known : (k : ℕ) → 0 < height_at (slice_set heights class height) k
        → IsHeight above k (height_at (slice_set heights class height) k)
    known k some = known_by k (class == k) refl some

    low_by : (k : ℕ) (test : Bool) → (class == k) ≡ test → height_at (slice_set heights class height) k ≤ length above
    low_by k true same = let e : class ≡ k = grind (arith, nat_tests) in rw (set_at heights class height k lt e) low
    low_by k false other = rw (set_off heights class height k (differ k other)) (are.low k)

    lows : (k : ℕ) → height_at (slice_set heights class height) k ≤ length above
    lows k = low_by k (class == k) refl

-- ---- blank heights

pub blank_none : (k : ℕ) → height_at [] k ≡ 0
unfolding height_at
blank_none k = refl

pub blank_push : (heights : List ℕ) → ((k : ℕ) → height_at heights k ≡ 0) → (k : ℕ) → height_at (heights ++ 0 ∷ []) k
    ≡ 0
unfolding height_at
blank_push [] blank zero = refl
blank_push [] blank (suc k) = refl
blank_push (x ∷ heights) blank zero = blank 0
blank_push (x ∷ heights) blank (suc k) = blank_push heights (λ n. blank (suc n)) k

-- ---- class by class

pub endless_starts : (above : List (Option ℕ)) (n : ℕ) → n ≡ length above → endless_from above 0 (n - 0)
    ≡ first_endless above
unfolding first_endless
endless_starts above n is = let same : n - 0 ≡ length above = omega arith in ap (endless_from above 0) same

pub endless_more : (above : List (Option ℕ)) (n total left : ℕ) → n < total → left ≡ length above
    → ends_within above left n ≡ true → endless_from above n (total - n) ≡ endless_from above (n + 1)
    (total - (n + 1))
unfolding endless_from
endless_more above n total left lt is ends =
    let same : total - n ≡ suc (total - (n + 1)) = omega arith in
    let here : ends_within above (length above) n ≡ true = rw (sym is) ends in
    rw (same, here) refl

pub endless_here : (above : List (Option ℕ)) (n total left : ℕ) → n < total → left ≡ length above
    → ends_within above left n ≡ false → endless_from above n (total - n) ≡ Some n
unfolding endless_from
endless_here above n total left lt is never =
    let same : total - n ≡ suc (total - (n + 1)) = omega arith in
    let here : ends_within above (length above) n ≡ false = rw (sym is) never in
    rw (same, here) refl

pub endless_end : (above : List (Option ℕ)) (n total : ℕ) → total ≤ n → endless_from above n (total - n) ≡ None
unfolding endless_from
endless_end above n total le = let none : total - n ≡ 0 = omega arith in rw none refl

-- what is found is one of them
pub endless_low : (above : List (Option ℕ)) (n left found : ℕ) → endless_from above n left ≡ Some found → found < n
    + left
unfolding endless_from
endless_low above n zero found is = absurd cc
endless_low above n (suc left) found is = by_test (endless_low above (n + 1) left found)
    (ends_within above (length above) n) is
  where
    by_test : (endless_from above (n + 1) left ≡ Some found → found < n + 1 + left) → (ends : Bool)
        → (if ends then endless_from above (n + 1) left else Some n) ≡ Some found → found < n + suc left
    by_test more true e = let lt = more e in omega (arith, lt)
    by_test more false e = let same : n ≡ found = ap (λ (o : Option ℕ). unwrap_or o n) e in omega (arith, same)

-- where none is found all end
pub endless_ends : (above : List (Option ℕ)) (n left class : ℕ) → endless_from above n left ≡ None → n ≤ class → class
    < n + left → ends_within above (length above) class ≡ true
unfolding endless_from
endless_ends above n zero class none low high = absurd (omega (arith, low, high))
endless_ends above n (suc left) class none low high
    = by_test (λ rest more. endless_ends above (n + 1) left class rest more (omega (arith, high)))
    (ends_within above (length above) n) refl none
  where
    here : ends_within above (length above) n ≡ true → (endless_from above (n + 1) left ≡ None)
        → (n + 1 ≤ class → ends_within above (length above) class ≡ true) → (later : Bool) → ltb n class ≡ later
        → ends_within above (length above) class ≡ true
    here ends rest more true is = let lt = ltb-true n class is in more (omega (arith, lt))
    here ends rest more false is = let same : n ≡ class = grind (arith, nat_tests)
        in subst (λ (k : ℕ). ends_within above (length above) k ≡ true) same ends

    by_test : (endless_from above (n + 1) left ≡ None → n + 1 ≤ class → ends_within above (length above) class ≡ true)
        → (ends : Bool) → ends_within above (length above) n ≡ ends
        → (if ends then endless_from above (n + 1) left else Some n) ≡ None → ends_within above (length above) class
        ≡ true
    by_test more true is e = here is e (more e) (ltb n class) refl
    by_test more false is e = absurd cc
