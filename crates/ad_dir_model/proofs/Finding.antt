-- What is found in the list of objects, and after one was put or removed.
use Rattle.std.proofs.Common.{◌≡◌, ℕ, ◌<◌, ◌≤◌, Bool, true, false, cond, List, [], ◌∷◌, map, Option, Some, None, inl}
use Rattle.std.proofs.Common.{inr, refl, sym, subst, ap, arith, ◌∙◌}
use Rattle.std.specs.Prelude.{nat_eq, nat_lt, find, filter, is_some, unwrap_or}
use Rattle.std.specs.List.{AllByRecursion}
use Rattle.std.proofs.lemmas.Bool.{eqb-true, eqb-false, eq-eqb, ne_eqb, ltb-true, ltb-false, false≢true, both_ways}
use Rattle.std.proofs.lemmas.Bool.{cases_Bool}
use Rattle.std.proofs.lemmas.Option.{none-some, same_Some}
use Rattle.ad_dir_model.specs.Object.{Object, no_object}
use Rattle.ad_dir_model.specs.Objects.{RiseAbove, numbers, object_of, is_live, object_at, put, removed}

-- ---- the object of a number

pub of_number : (os : List Object) (n : ℕ) (o : Object) → object_of os n ≡ Some o → o.number ≡ n
unfolding object_of
of_number [] n o is = absurd (none-some o is)
of_number (x ∷ xs) n o is = elim (cases_Bool (nat_eq x.number n)) [
  | inl here ↦ let same : x ≡ o = same_Some x o (rw here at is) in rw (← same) (eqb-true x.number n here)
  | inr other ↦ of_number xs n o (rw other at is)
]

pub at-of : (os : List Object) (n : ℕ) (o : Object) → object_of os n ≡ Some o → object_at os n ≡ o
unfolding object_at
at-of os n o is = rw is refl

pub live-of : (os : List Object) (n : ℕ) (o : Object) → object_of os n ≡ Some o → is_live os n ≡ true
live-of os n o is = rw is refl

some_unwrapped : (found : Option Object) → is_some found ≡ true → found ≡ Some (unwrap_or found no_object)
some_unwrapped None is = absurd (false≢true is)
some_unwrapped (Some o) is = refl

pub of-live : (os : List Object) (n : ℕ) → is_live os n ≡ true → object_of os n ≡ Some (object_at os n)
unfolding object_at
of-live os n live = some_unwrapped (object_of os n) live

pub at_number : (os : List Object) (n : ℕ) → is_live os n ≡ true → (object_at os n).number ≡ n
at_number os n live = of_number os n (object_at os n) (of-live os n live)

none_unwrapped : (found : Option Object) → is_some found ≡ false → unwrap_or found no_object ≡ no_object
none_unwrapped None is = refl
none_unwrapped (Some o) is = absurd (false≢true (sym is))

pub at-not_live : (os : List Object) (n : ℕ) → is_live os n ≡ false → object_at os n ≡ no_object
unfolding object_at
at-not_live os n not_live = none_unwrapped (object_of os n) not_live

-- ---- numbers rise

pub rise_weaken : (m k : ℕ) (os : List Object) → RiseAbove m os → k ≤ m → RiseAbove k os
rise_weaken m k [] rise le = tt
rise_weaken m k (x ∷ xs) rise le = let above : m < x.number = rise.0 in (omega arith, rise.1)

pub of_above : (m : ℕ) (os : List Object) (n : ℕ) (o : Object) → RiseAbove m os → object_of os n ≡ Some o → m < n
unfolding object_of
of_above m [] n o rise is = absurd (none-some o is)
of_above m (x ∷ xs) n o rise is =
    let above : m < x.number = rise.0 in
    elim (cases_Bool (nat_eq x.number n)) [
      | inl here ↦ let same : x.number ≡ n = eqb-true x.number n here in omega arith
      | inr other ↦ let more : x.number < n = of_above x.number xs n o rise.1 (rw other at is) in omega arith
    ]

pub live_above : (m : ℕ) (os : List Object) (n : ℕ) → RiseAbove m os → is_live os n ≡ true → m < n
live_above m os n rise live = of_above m os n (object_at os n) rise (of-live os n live)

all_weaker : (P Q : Object → Type 0) (os : List Object) → ((o : Object) → P o → Q o) → AllByRecursion P os
    → AllByRecursion Q os
all_weaker P Q [] weaker all = tt
all_weaker P Q (o ∷ os) weaker all = (weaker o all.0, all_weaker P Q os weaker all.1)

behind_found : (m : ℕ) (x : Object) (xs : List Object) (o : Object) → RiseAbove m (x ∷ xs) → object_of xs o.number
    ≡ Some o → object_of (x ∷ xs) o.number ≡ Some o
unfolding object_of
behind_found m x xs o rise is =
    let apart : x.number ≡ o.number → ⊥ = λ (e : x.number ≡ o.number).
    let above = of_above x.number xs o.number o rise.1 is in absurd (omega (arith, above, e)) in
    rw (ne_eqb x.number o.number apart) is

found_at_head : (x : Object) (xs : List Object) → object_of (x ∷ xs) x.number ≡ Some x
unfolding object_of
found_at_head x xs = rw (eq-eqb x.number x.number refl) refl

-- each object of a list that rises is found by its number
pub all_found : (m : ℕ) (os : List Object) → RiseAbove m os
    → AllByRecursion (λ (o : Object). object_of os o.number ≡ Some o) os
all_found m [] rise = tt
all_found m (x ∷ xs) rise = (
  found_at_head x xs,
  all_weaker (λ (o : Object). object_of xs o.number ≡ Some o) (λ (o : Object). object_of (x ∷ xs) o.number ≡ Some o) xs
      (λ o is. behind_found m x xs o rise is) (all_found x.number xs rise.1),
)

pub rise_put : (m : ℕ) (o : Object) (os : List Object) → RiseAbove m os → m < o.number → RiseAbove m (put o os)
unfolding put
rise_put m o [] rise above = (above, tt)
rise_put m o (x ∷ xs) rise above =
    elim (cases_Bool (nat_eq x.number o.number)) [
      | inl same ↦ rw same (above, subst (λ (n : ℕ). RiseAbove n xs) (eqb-true x.number o.number same) rise.1)
      | inr apart ↦ elim (cases_Bool (nat_lt o.number x.number)) [
        | inl less ↦ rw (apart, less) (above, (ltb-true o.number x.number less, rise.1))
        | inr least ↦
            let other : x.number ≡ o.number → ⊥ = eqb-false x.number o.number apart in
            let le : x.number ≤ o.number = ltb-false o.number x.number least in
            let more : x.number < o.number = omega arith in
            rw (apart, least) (rise.0, rise_put x.number o xs rise.1 more)
      ]
    ]

-- ---- one that was put

pub of-put_same : (o : Object) (os : List Object) → object_of (put o os) o.number ≡ Some o
unfolding object_of put
of-put_same o [] = rw (eq-eqb o.number o.number refl) refl
of-put_same o (x ∷ xs) =
    elim (cases_Bool (nat_eq x.number o.number)) [
      | inl same ↦ rw (same, eq-eqb o.number o.number refl) refl
      | inr apart ↦ elim (cases_Bool (nat_lt o.number x.number)) [
        | inl less ↦ rw (apart, less, eq-eqb o.number o.number refl) refl
        | inr least ↦ rw (apart, least, apart) (of-put_same o xs)
      ]
    ]

pub of-put_other : (o : Object) (os : List Object) (n : ℕ) → (o.number ≡ n → ⊥) → object_of (put o os) n
    ≡ object_of os n
unfolding object_of put
of-put_other o [] n apart = rw (ne_eqb o.number n apart) refl
of-put_other o (x ∷ xs) n apart =
    elim (cases_Bool (nat_eq x.number o.number)) [
      | inl same ↦
          let is : x.number ≡ o.number = eqb-true x.number o.number same in
          let other : x.number ≡ n → ⊥ = λ (e : x.number ≡ n). apart (sym is ∙ e) in
          rw (same, ne_eqb o.number n apart, ne_eqb x.number n other) refl
      | inr differ ↦ elim (cases_Bool (nat_lt o.number x.number)) [
        | inl less ↦ rw (differ, less, ne_eqb o.number n apart) refl
        | inr least ↦ rw (differ, least) (ap (λ (rest : Option Object). cond (nat_eq x.number n) (Some x) rest)
            (of-put_other o xs n apart))
      ]
    ]

pub at-put_same : (o : Object) (os : List Object) → object_at (put o os) o.number ≡ o
at-put_same o os = at-of (put o os) o.number o (of-put_same o os)

pub at-put_other : (o : Object) (os : List Object) (n : ℕ) → (o.number ≡ n → ⊥) → object_at (put o os) n
    ≡ object_at os n
unfolding object_at
at-put_other o os n apart = ap (λ (found : Option Object). unwrap_or found no_object) (of-put_other o os n apart)

pub live-put_same : (o : Object) (os : List Object) → is_live (put o os) o.number ≡ true
live-put_same o os = live-of (put o os) o.number o (of-put_same o os)

pub live-put_other : (o : Object) (os : List Object) (n : ℕ) → (o.number ≡ n → ⊥) → is_live (put o os) n ≡ is_live os n
live-put_other o os n apart = ap is_some (of-put_other o os n apart)

-- what was live is
pub live-put : (o : Object) (os : List Object) (n : ℕ) → is_live os n ≡ true → is_live (put o os) n ≡ true
live-put o os n live =
    elim (cases_Bool (nat_eq o.number n)) [
      | inl same ↦ subst (λ (k : ℕ). is_live (put o os) k ≡ true) (eqb-true o.number n same) (live-put_same o os)
      | inr apart ↦ live-put_other o os n (eqb-false o.number n apart) ∙ live
    ]

live_behind : (x : Object) (xs : List Object) (n : ℕ) → nat_eq x.number n ≡ false → is_live (x ∷ xs) n ≡ true
    → is_live xs n ≡ true
unfolding object_of
live_behind x xs n apart live = rw apart at live

-- the numbers stay where the object's is there
pub numbers-put : (m : ℕ) (o : Object) (os : List Object) → RiseAbove m os → is_live os o.number ≡ true
    → numbers (put o os) ≡ numbers os
unfolding numbers put object_of
numbers-put m o [] rise live = absurd (false≢true live)
numbers-put m o (x ∷ xs) rise live =
    elim (cases_Bool (nat_eq x.number o.number)) [
      | inl same ↦ rw same (ap (λ (n : ℕ). n ∷ map (λ (y : Object). y.number) xs)
          (sym (eqb-true x.number o.number same)))
      | inr apart ↦ elim (cases_Bool (nat_lt o.number x.number)) [
        | inl less ↦
            let below : o.number < x.number = ltb-true o.number x.number less in
            let above : x.number < o.number = live_above x.number xs o.number rise.1
            (live_behind x xs o.number apart live) in
            absurd (omega arith)
        | inr least ↦ rw (apart, least) (ap (λ (ns : List ℕ). x.number ∷ ns)
            (numbers-put x.number o xs rise.1 (live_behind x xs o.number apart live)))
      ]
    ]

-- ---- one that was removed

pub of-removed_same : (n : ℕ) (os : List Object) → object_of (removed n os) n ≡ None
unfolding object_of removed
of-removed_same n [] = refl
of-removed_same n (x ∷ xs) =
    elim (cases_Bool (nat_eq x.number n)) [
      | inl same ↦ rw same (of-removed_same n xs)
      | inr apart ↦ rw (apart, apart) (of-removed_same n xs)
    ]

pub of-removed_other : (k : ℕ) (os : List Object) (n : ℕ) → (k ≡ n → ⊥) → object_of (removed k os) n ≡ object_of os n
unfolding object_of removed
of-removed_other k [] n apart = refl
of-removed_other k (x ∷ xs) n apart =
    elim (cases_Bool (nat_eq x.number k)) [
      | inl same ↦
          let is : x.number ≡ k = eqb-true x.number k same in
          let other : x.number ≡ n → ⊥ = λ (e : x.number ≡ n). apart (sym is ∙ e) in
          rw (same, ne_eqb x.number n other) (of-removed_other k xs n apart)
      | inr differ ↦ rw differ (ap (λ (rest : Option Object). cond (nat_eq x.number n) (Some x) rest)
          (of-removed_other k xs n apart))
    ]

pub rise_filter : (test : Object → Bool) (m : ℕ) (os : List Object) → RiseAbove m os → RiseAbove m (filter test os)
rise_filter test m [] rise = tt
rise_filter test m (x ∷ xs) rise =
    let above : m < x.number = rise.0 in
    let le : m ≤ x.number = omega arith in
    elim (cases_Bool (test x)) [
      | inl stays ↦ rw stays (rise.0, rise_filter test x.number xs rise.1)
      | inr goes ↦ rw goes (rise_weaken x.number m (filter test xs) (rise_filter test x.number xs rise.1) le)
    ]

-- ---- the first that passes a test

pub record IsFirst (test : Object → Bool) (m : ℕ) (os : List Object) (o : Object) : Type 0 where
  pub live : object_of os o.number ≡ Some o
  pub passes : test o ≡ true
  pub above : m < o.number
  pub least : (n : ℕ) (x : Object) → object_of os n ≡ Some x → test x ≡ true → o.number ≤ n

first_here : (test : Object → Bool) (m : ℕ) (x : Object) (xs : List Object) → RiseAbove m (x ∷ xs) → test x ≡ true
    → IsFirst test m (x ∷ xs) x
unfolding object_of
first_here test m x xs rise passes = record {
  live = rw (eq-eqb x.number x.number refl) refl;
  passes = passes;
  above = rise.0;
  least = λ n y live _. elim (cases_Bool (nat_eq x.number n)) [
    | inl here ↦ let e : x.number ≡ n = eqb-true x.number n here in omega arith
    | inr other ↦ let more : x.number < n = of_above x.number xs n y rise.1 (rw other at live) in omega arith
  ];
}

first_behind : (test : Object → Bool) (m : ℕ) (x : Object) (xs : List Object) (o : Object) → RiseAbove m (x ∷ xs)
    → test x ≡ false → IsFirst test x.number xs o → IsFirst test m (x ∷ xs) o
unfolding object_of
first_behind test m x xs o rise fails first =
    let above : x.number < o.number = first.above in
    let before : m < x.number = rise.0 in
    let other : x.number ≡ o.number → ⊥ = λ (e : x.number ≡ o.number). absurd (omega arith) in
    record {
      live = rw (ne_eqb x.number o.number other) first.live;
      passes = first.passes;
      above = omega arith;
      least = λ n y live passes. elim (cases_Bool (nat_eq x.number n)) [
        | inl here ↦ let e : x ≡ y = same_Some x y (rw here at live) in absurd (both_ways (test x) fails (rw e passes))
        | inr apart ↦ first.least n y (rw apart at live) passes
      ];
    }

pub found_first : (test : Object → Bool) (m : ℕ) (os : List Object) (o : Object) → RiseAbove m os → find test os
    ≡ Some o → IsFirst test m os o
found_first test m [] o rise is = absurd (none-some o is)
found_first test m (x ∷ xs) o rise is =
    elim (cases_Bool (test x)) [
      | inl passes ↦ subst (IsFirst test m (x ∷ xs)) (same_Some x o (rw passes at is))
          (first_here test m x xs rise passes)
      | inr fails ↦ first_behind test m x xs o rise fails (found_first test x.number xs o rise.1 (rw fails at is))
    ]

pub none_found : (test : Object → Bool) (os : List Object) (n : ℕ) (x : Object) → find test os ≡ None → object_of os n
    ≡ Some x → test x ≡ false
unfolding object_of
none_found test [] n x none is = absurd (none-some x is)
none_found test (y ∷ ys) n x none is =
    elim (cases_Bool (test y)) [
      | inl passes ↦ absurd (none-some y (sym (rw passes at none)))
      | inr fails ↦ elim (cases_Bool (nat_eq y.number n)) [
        | inl here ↦ let same : y ≡ x = same_Some y x (rw here at is) in rw (← same) fails
        | inr other ↦ none_found test ys n x (rw fails at none) (rw other at is)
      ]
    ]
