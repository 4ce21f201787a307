-- What is gathered level by level is the subtree.
use Rattle.std.proofs.Common.{◌≡◌, ℕ, zero, suc, ◌-◌, ◌<◌, ◌≤◌, Bool, true, false, ◌&&◌, ◌||◌, List, [], ◌∷◌, ◌++◌}
use Rattle.std.proofs.Common.{map, Some, inl, inr, refl, sym, subst, ap, ◌∙◌, arith}
use Rattle.std.specs.Prelude.{nat_eq, ◌==◌, filter, if◌then◌else◌}
use Rattle.std.specs.List.{AllByRecursion, AllPairs}
use Rattle.std.specs.List.Sorted.{IsStrictlyIncreasing}
use Rattle.std.proofs.lemmas.Bool.{cases_Bool, cases_lt, eqb-true, eqb-false, eq-eqb, ne_eqb, both_ways, and_parts}
use Rattle.std.proofs.lemmas.List.{append-nil, append_assoc}
use Rattle.std.proofs.lemmas.List.Folds.{list_any-append}
use Rattle.std.proofs.lemmas.List.Kept.{AllPairs-from_increasing}
use Rattle.ad_dir_model.specs.Object.{Object}
use Rattle.ad_dir_model.specs.Objects.{RiseAbove, Rise, object_of, object_at, is_live, parent_at, numbers, children}
use Rattle.ad_dir_model.specs.Tree.{root, is_below_within, is_below}
use Rattle.ad_dir_model.specs.Limits.{max_depth}
use Rattle.ad_dir_model.specs.Directory.{Directory}
use Rattle.ad_dir_model.specs.Changes.{goes_with}
use Rattle.ad_dir_model.proofs.Finding.{at-of, of-live, live_above, all_found}
use Rattle.ad_entries.specs.Rising.{is_in}
use Rattle.ad_search.specs.Subtree.{is_other, below_each, levels_from, subtree}

-- ---- truth values

pub and_false : (a : Bool) → (a && false) ≡ false
and_false true = refl
and_false false = refl

and_true : (a : Bool) → (a && true) ≡ a
and_true true = refl
and_true false = refl

-- one child or one of the others
spread : (live is other rest : Bool) → (((live && is) && other) || ((live && other) && rest))
    ≡ ((live && other) && (is || rest))
spread true true true rest = refl
spread true true false rest = refl
spread true false true rest = refl
spread true false false rest = refl
spread false is other rest = refl

over : (a b c : Bool) → ((a && b) || (a && c)) ≡ (a && (b || c))
over true b c = refl
over false b c = refl

-- ---- numbers in a list

pub in_filter : (test : ℕ → Bool) (n : ℕ) (xs : List ℕ) → is_in n (filter test xs) ≡ (is_in n xs && test n)
in_filter test n [] = refl
in_filter test n (x ∷ xs) = elim (cases_Bool (nat_eq n x)) [
  | inl here ↦ elim (cases_Bool (test x)) [
    | inl has_it ↦ rw (has_it, here) (sym (ap test (eqb-true n x here) ∙ has_it))
    | inr lacks ↦
        let not_it : test n ≡ false = ap test (eqb-true n x here) ∙ lacks in
        rw (lacks, here) (in_filter test n xs ∙ ap (λ (b : Bool). is_in n xs && b) not_it ∙ and_false (is_in n xs)
        ∙ sym not_it)
  ]
  | inr other ↦ elim (cases_Bool (test x)) [
    | inl has_it ↦ rw (has_it, other) (in_filter test n xs)
    | inr lacks ↦ rw (lacks, other) (in_filter test n xs)
  ]
]

turned : (n m : ℕ) → nat_eq n m ≡ false → nat_eq m n ≡ false
turned n m other = ne_eqb m n (λ (e : m ≡ n). eqb-false n m other (sym e))

pub in_numbers : (n : ℕ) (os : List Object) → is_in n (numbers os) ≡ is_live os n
unfolding numbers object_of
in_numbers n [] = refl
in_numbers n (o ∷ os) = elim (cases_Bool (nat_eq n o.number)) [
  | inl here ↦ rw (here, eq-eqb o.number n (sym (eqb-true n o.number here))) refl
  | inr other ↦ rw (other, turned n o.number other) (in_numbers n os)
]

-- of the objects that pass a test
in_passing : (test : Object → Bool) (n : ℕ) (whole os : List Object)
    → AllByRecursion (λ (o : Object). object_of whole o.number ≡ Some o) os
    → is_in n (map (λ (o : Object). o.number) (filter test os))
    ≡ (is_in n (map (λ (o : Object). o.number) os) && test (object_at whole n))
in_passing test n whole [] are = refl
in_passing test n whole (o ∷ os) are = elim (cases_Bool (nat_eq n o.number)) [
  | inl here ↦
      let is : object_at whole n ≡ o = at-of whole n o (ap (object_of whole) (eqb-true n o.number here) ∙ are.0) in
      elim (cases_Bool (test o)) [
        | inl has_it ↦ rw (has_it, here) (sym (ap test is ∙ has_it))
        | inr lacks ↦
            let not_it : test (object_at whole n) ≡ false = ap test is ∙ lacks in
            rw (lacks, here) (in_passing test n whole os are.1
            ∙ ap (λ (b : Bool). is_in n (map (λ (x : Object). x.number) os) && b) not_it
            ∙ and_false (is_in n (map (λ (x : Object). x.number) os)) ∙ sym not_it)
      ]
  | inr other ↦ elim (cases_Bool (test o)) [
    | inl has_it ↦ rw (has_it, other) (in_passing test n whole os are.1)
    | inr lacks ↦ rw (lacks, other) (in_passing test n whole os are.1)
  ]
]

in_children : (objects : List Object) (n parent : ℕ) → Rise objects → is_in n (children objects parent)
    ≡ (is_live objects n && (parent_at objects n == parent))
unfolding numbers
in_children objects n parent rise =
    in_passing (λ (o : Object). o.parent == parent) n objects objects (all_found 0 objects rise)
    ∙ ap (λ (b : Bool). b && (parent_at objects n == parent)) (in_numbers n objects)

-- ---- level by level

-- a live object that isn't the root
abbrev hangs : List Object → ℕ → Bool
hangs objects n = is_live objects n && is_other n

module _ (objects : List Object) (rise : Rise objects) where
  in_below : (n : ℕ) (level : List ℕ) → is_in n (below_each objects level)
      ≡ (hangs objects n && is_in (parent_at objects n) level)
  unfolding below_each
  in_below n [] = sym (and_false (hangs objects n))
  in_below n (p ∷ ps) =
      list_any-append (λ (m : ℕ). n == m) (filter is_other (children objects p)) (below_each objects ps)
      ∙ ap (λ (b : Bool). b || is_in n (below_each objects ps))
      (in_filter is_other n (children objects p) ∙ ap (λ (b : Bool). b && is_other n)
      (in_children objects n p rise))
      ∙ ap (λ (b : Bool). ((is_live objects n && (parent_at objects n == p)) && is_other n) || b) (in_below n ps)
      ∙ spread (is_live objects n) (parent_at objects n == p) (is_other n) (is_in (parent_at objects n) ps)

  -- one level further down is what stands below
  in_further : (n l : ℕ) (level : List ℕ) → is_in n (levels_from objects l (below_each objects level))
      ≡ (hangs objects n && is_in (parent_at objects n) (levels_from objects l level))
  unfolding levels_from
  in_further n zero level = sym (and_false (hangs objects n))
  in_further n (suc l) level =
      let below : List ℕ = below_each objects level in
      list_any-append (λ (m : ℕ). n == m) below (levels_from objects l (below_each objects below))
      ∙ ap (λ (b : Bool). b || is_in n (levels_from objects l (below_each objects below))) (in_below n level)
      ∙ ap (λ (b : Bool). (hangs objects n && is_in (parent_at objects n) level) || b) (in_further n l below)
      ∙ over (hangs objects n) (is_in (parent_at objects n) level)
      (is_in (parent_at objects n) (levels_from objects l below))
      ∙ ap (λ (b : Bool). hangs objects n && b)
      (sym (list_any-append (λ (m : ℕ). parent_at objects n == m) level (levels_from objects l below)))

-- the object is the base, or stands below it at most so many parents down
abbrev at_or_under : List Object → ℕ → ℕ → ℕ → Bool
at_or_under objects l base n = (n == base) || is_below_within (parent_at objects) l base n

module _ (objects : List Object) (rise : Rise objects) (above : (n : ℕ) (o : Object) → object_of objects n ≡ Some o
    → (n ≡ root → ⊥) → is_live objects o.parent ≡ true)
    (base : ℕ) (base_live : is_live objects base ≡ true) where
  base_only : (n : ℕ) → is_live objects n ≡ false → (n == base) ≡ false
  base_only n dead = ne_eqb n base (λ (e : n ≡ base). both_ways (is_live objects n) dead
      (ap (is_live objects) e ∙ base_live))

  at_base : (n : ℕ) → ((n == base) || false) ≡ (is_live objects n && ((n == base) || false))
  at_base n = elim (cases_Bool (is_live objects n)) [
    | inl live ↦ rw live refl
    | inr dead ↦ rw (dead, base_only n dead) refl
  ]

  in_levels : (l n : ℕ) → is_in n (levels_from objects (suc l) (base ∷ []))
      ≡ (is_live objects n && at_or_under objects l base n)
  unfolding levels_from is_below_within
  in_levels zero n = at_base n
  in_levels (suc l) n =
      let parent : ℕ = parent_at objects n in
      ap (λ (b : Bool). (n == base) || b)
      (in_further objects rise n (suc l) (base ∷ []) ∙ ap (λ (b : Bool). hangs objects n && b) (in_levels l parent))
      ∙ by_cases
    where
      by_cases : ((n == base) || (hangs objects n
          && (is_live objects (parent_at objects n) && at_or_under objects l base (parent_at objects n))))
          ≡ (is_live objects n && ((n == base)
          || (if n == root then false else at_or_under objects l base (parent_at objects n))))
      by_cases = elim (cases_Bool (is_live objects n)) [
        | inl live ↦ elim (cases_Bool (nat_eq n root)) [
          | inl here ↦ rw (live, here) refl
          | inr down ↦ rw (live, down, above n (object_at objects n) (of-live objects n live) (eqb-false n root down))
              refl
        ]
        | inr dead ↦ rw (dead, base_only n dead) refl
      ]

-- what is found so far, and the levels that are left
pub level_more : (objects : List Object) (left : ℕ) (level below before after whole : List ℕ) → 0 < left → below
    ≡ below_each objects level → after ≡ before ++ level
    → before ++ levels_from objects left level ≡ whole → after ++ levels_from objects (left - 1) below ≡ whole
unfolding levels_from
level_more objects zero level below before after whole more next is so_far = absurd (omega (arith, more))
level_more objects (suc left) level below before after whole more next is so_far =
    let less : suc left - 1 ≡ left = omega arith in
    ap (λ (k : ℕ). after ++ levels_from objects k below) less
    ∙ ap (λ (ns : List ℕ). ns ++ levels_from objects left below) is
    ∙ ap (λ (ns : List ℕ). (before ++ level) ++ levels_from objects left ns) next
    ∙ append_assoc before level (levels_from objects left (below_each objects level))
    ∙ so_far

pub levels_end : (objects : List Object) (left : ℕ) (level found whole : List ℕ) → left ≤ 0 → found
    ++ levels_from objects left level ≡ whole → found ≡ whole
unfolding levels_from
levels_end objects zero level found whole none so_far = sym (append-nil found) ∙ so_far
levels_end objects (suc left) level found whole none so_far = absurd (omega (arith, none))

-- ---- rising numbers

-- each number is above the one before it, and the first above this one
abbrev pub RisesAbove : ℕ → List ℕ → Type 0
RisesAbove number [] = Unit {0}
RisesAbove number (n ∷ ns) = (number < n) × RisesAbove n ns

lower : (j k : ℕ) (xs : List ℕ) → RisesAbove k xs → j ≤ k → RisesAbove j xs
lower j k [] rises le = tt
lower j k (x ∷ xs) rises le = (let above : k < x = rises.0 in omega arith, rises.1)

pub kept_rising : (test : ℕ → Bool) (k : ℕ) (xs : List ℕ) → RisesAbove k xs → RisesAbove k (filter test xs)
kept_rising test k [] rises = tt
kept_rising test k (x ∷ xs) rises = elim (cases_Bool (test x)) [
  | inl has_it ↦ rw has_it (rises.0, kept_rising test x xs rises.1)
  | inr lacks ↦ rw lacks (lower k x (filter test xs) (kept_rising test x xs rises.1)
      (let above : k < x = rises.0 in omega arith))
]

pub numbers_rise : (k : ℕ) (os : List Object) → RiseAbove k os → RisesAbove k (numbers os)
unfolding numbers
numbers_rise k [] rise = tt
numbers_rise k (o ∷ os) rise = (rise.0, numbers_rise o.number os rise.1)

not_below : (k n : ℕ) (xs : List ℕ) → RisesAbove k xs → n ≤ k → is_in n xs ≡ false
not_below k n [] rises le = refl
not_below k n (x ∷ xs) rises le =
    let above : k < x = rises.0 in
    rw (ne_eqb n x (λ (e : n ≡ x). absurd (omega (arith, e)))) (not_below x n xs rises.1 (omega arith))

is_first : (x : ℕ) (xs : List ℕ) → is_in x (x ∷ xs) ≡ true
is_first x xs = rw (eq-eqb x x refl) refl

-- two lists of the same numbers that rise are one
pub same_rising : (j k : ℕ) (xs ys : List ℕ) → RisesAbove j xs → RisesAbove k ys → ((n : ℕ) → is_in n xs ≡ is_in n ys)
    → xs ≡ ys
same_rising j k [] [] rx ry same = refl
same_rising j k [] (y ∷ ys) rx ry same = absurd (both_ways (is_in y (y ∷ ys)) (sym (same y)) (is_first y ys))
same_rising j k (x ∷ xs) [] rx ry same = absurd (both_ways (is_in x (x ∷ xs)) (same x) (is_first x xs))
same_rising j k (x ∷ xs) (y ∷ ys) rx ry same = elim (cases_lt x y) [
  | inl less ↦ absurd (both_ways (is_in x (x ∷ xs)) (same x ∙ not_below x x (y ∷ ys) (less, ry.1) (omega arith))
      (is_first x xs))
  | inr more ↦ elim (cases_lt y x) [
    | inl less ↦ absurd (both_ways (is_in y (y ∷ ys))
        (sym (same y) ∙ not_below y y (x ∷ xs) (less, rx.1) (omega arith)) (is_first y ys))
    | inr no_more ↦
        let one : x ≡ y = omega (arith, more, no_more) in
        ap (λ (n : ℕ). n ∷ xs) one ∙ ap (λ (ns : List ℕ). y ∷ ns) (same_rising x y xs ys rx.1 ry.1 (others one))
  ]
]
  where
    others : x ≡ y → (n : ℕ) → is_in n xs ≡ is_in n ys
    others one n = elim (cases_Bool (nat_eq n x)) [
      | inl here ↦
          let at_x : n ≡ x = eqb-true n x here in
          not_below x n xs rx.1 (omega (arith, at_x)) ∙ sym (not_below y n ys ry.1 (omega (arith, at_x, one)))
      | inr other ↦
          let not_y : nat_eq n y ≡ false = subst (λ (z : ℕ). nat_eq n z ≡ false) one other in
          sym (ap (λ (b : Bool). b || is_in n xs) other) ∙ same n ∙ ap (λ (b : Bool). b || is_in n ys) not_y
    ]

from_pairs : (x : ℕ) (xs : List ℕ) → AllPairs (λ (a b : ℕ). a < b) (x ∷ xs) → RisesAbove x xs
from_pairs x [] all = tt
from_pairs x (y ∷ ys) all = (
  all 0 1 0 (omega arith) (omega arith),
  from_pairs y ys (λ i j d less within. all (suc i) (suc j) d (omega (arith, less)) (omega (arith, within))),
)

rising_from : (xs : List ℕ) → IsStrictlyIncreasing xs → (k : ℕ) → ((x : ℕ) → is_in x xs ≡ true → k < x)
    → RisesAbove k xs
rising_from [] rises k above = tt
rising_from (x ∷ xs) rises k above = (
  above x (is_first x xs),
  from_pairs x xs
      (AllPairs-from_increasing (x ∷ xs) rises),
)

-- ---- the whole

above_zero : (dir : Directory) → Rise dir.objects → (n : ℕ) → is_live dir.objects n ≡ true → 0 < n
above_zero dir rise n live = live_above 0 dir.objects n rise live

-- Rising numbers that are those of all levels are the subtree.
pub gathered : (dir : Directory) (base : ℕ) (found rising : List ℕ) → Rise dir.objects
    → ((n : ℕ) (o : Object) → object_of dir.objects n ≡ Some o → (n ≡ root → ⊥) → is_live dir.objects o.parent ≡ true)
    → is_live dir.objects base ≡ true → found ≡ levels_from dir.objects 65 (base ∷ []) → IsStrictlyIncreasing rising
    → ((n : ℕ) → is_in n rising ≡ is_in n found)
    → rising ≡ subtree dir base
unfolding subtree goes_with is_below max_depth
gathered dir base found rising rise above live is rises same =
    same_rising 0 0 rising (subtree dir base)
    (rising_from rising rises 0 (λ n there. above_zero dir rise n (live_if n (sym (levels n) ∙ there))))
    (kept_rising (goes_with dir base) 0 (numbers dir.objects) (numbers_rise 0 dir.objects rise))
    (λ n. levels n ∙ sym (in_filter (goes_with dir base) n (numbers dir.objects)
    ∙ ap (λ (b : Bool). b && goes_with dir base n) (in_numbers n dir.objects)))
  where
    levels : (n : ℕ) → is_in n rising ≡ (is_live dir.objects n && goes_with dir base n)
    levels n = same n ∙ ap (is_in n) is ∙ in_levels dir.objects rise above base live 64 n

    live_if : (n : ℕ) → (is_live dir.objects n && goes_with dir base n) ≡ true → is_live dir.objects n ≡ true
    live_if n both = (and_parts (is_live dir.objects n) (goes_with dir base n) both).0
