-- The protected objects are the least set, both ways.
use Rattle.std.proofs.Common.{◌≡◌, ℕ, zero, suc, ◌+◌, ◌<◌, ◌≤◌, Bool, true, false, not, cond, List, [], ◌∷◌, map}
use Rattle.std.proofs.Common.{length, Option, Some, None, ◌⊎◌, inl, inr, refl, sym, subst, ap, arith, ◌∙◌}
use Rattle.std.specs.Prelude.{nat_eq, nat_lt, if◌then◌else◌, filter, find, ◌&&◌, ◌||◌}
use Rattle.std.specs.List.{AllByRecursion, list_any}
use Rattle.std.proofs.lemmas.Bool.{eqb-true, eqb-false, ne_eqb, eq-eqb, cases_Bool, false≢true, both_ways, or_cases}
use Rattle.std.proofs.lemmas.Bool.{or_left, or_right, and_parts, and_from}
use Rattle.std.proofs.lemmas.Option.{none-some, same_Some}
use Rattle.std.proofs.lemmas.List.{length-map}
use Rattle.ad_dir_model.specs.Object.{Object}
use Rattle.ad_dir_model.specs.Objects.{RiseAbove, Rise, has_number, object_of, is_live, object_at}
use Rattle.ad_dir_model.specs.Identity.{sid_in, self_sid}
use Rattle.ad_dir_model.specs.Directory.{Directory}
use Rattle.ad_dir_model.specs.Protection.{begins_protection, is_protected_alone, has_group, has, IsClosed}
use Rattle.ad_dir_model.specs.Protection.{IsReachedBySpread, IsProtected, numbers_where, joins, grown, spread}
use Rattle.ad_dir_model.specs.Protection.{protected}
use Rattle.ad_dir_model.proofs.Finding.{of_number, at-of, of-live, at_number, live-of, of_above}

-- ---- numbers of the objects that pass a test

-- the number of an object that passes
pub has_where : (test : Object → Bool) (os : List Object) (n : ℕ) (x : Object) → object_of os n ≡ Some x → test x
    ≡ true → has (numbers_where test os) n ≡ true
unfolding object_of
has_where test [] n x is passes = absurd (none-some x is)
has_where test (y ∷ ys) n x is passes =
    elim (cases_Bool (nat_eq y.number n)) [
      | inl here ↦
          let same : y ≡ x = same_Some y x (rw here at is) in
          let first : test y ≡ true = rw same passes in
          rw (first, here) refl
      | inr other ↦ elim (cases_Bool (test y)) [
        | inl first ↦ rw first (or_right (nat_eq y.number n) (has (numbers_where test ys) n)
            (has_where test ys n x (rw other at is) passes))
        | inr fails ↦ rw fails (has_where test ys n x (rw other at is) passes)
      ]
    ]

-- and only such numbers
pub record IsWhere (test : Object → Bool) (os : List Object) (n : ℕ) : Type 0 where
  pub object : Object
  pub live : object_of os n ≡ Some object
  pub passes : test object ≡ true

where_behind : (test : Object → Bool) (m n : ℕ) (y : Object) (ys : List Object) → RiseAbove m (y ∷ ys)
    → IsWhere test ys n → IsWhere test (y ∷ ys) n
unfolding object_of
where_behind test m n y ys rise is =
    let above : y.number < n = of_above y.number ys n is.object rise.1 is.live in
    let other : y.number ≡ n → ⊥ = λ (e : y.number ≡ n). absurd (omega arith) in
    record { object = is.object; live = rw (ne_eqb y.number n other) is.live; passes = is.passes }

pub where_is : (test : Object → Bool) (m : ℕ) (os : List Object) (n : ℕ) → RiseAbove m os
    → has (numbers_where test os) n ≡ true → IsWhere test os n
unfolding object_of
where_is test m [] n rise is = absurd (false≢true is)
where_is test m (y ∷ ys) n rise is =
    elim (cases_Bool (test y)) [
      | inl passes ↦ elim (cases_Bool (nat_eq y.number n)) [
        | inl here ↦ record { object = y; live = rw here refl; passes = passes }
        | inr other ↦ where_behind test m n y ys rise (where_is test y.number ys n rise.1 (rw (passes, other) at is))
      ]
      | inr fails ↦ where_behind test m n y ys rise (where_is test y.number ys n rise.1 (rw fails at is))
    ]

pub where_live : (test : Object → Bool) (os : List Object) (n : ℕ) → Rise os → has (numbers_where test os) n ≡ true
    → is_live os n ≡ true
where_live test os n rise is = let found = where_is test 0 os n rise is in live-of os n found.object found.live

pub where_passes : (test : Object → Bool) (os : List Object) (n : ℕ) → Rise os → has (numbers_where test os) n ≡ true
    → test (object_at os n) ≡ true
where_passes test os n rise is = let found = where_is test 0 os n rise is in rw (at-of os n found.object found.live)
    found.passes

pub where_from : (test : Object → Bool) (os : List Object) (n : ℕ) → is_live os n ≡ true → test (object_at os n)
    ≡ true → has (numbers_where test os) n ≡ true
where_from test os n live passes = has_where test os n (object_at os n) (of-live os n live) passes

-- an object of the list that passes is the object of its number
pub any_object : (test : Object → Bool) (m : ℕ) (os : List Object) → RiseAbove m os → list_any test os ≡ true
    → (x : Object) × (object_of os x.number ≡ Some x) × (test x ≡ true)
unfolding object_of
any_object test m [] rise is = absurd (false≢true is)
any_object test m (y ∷ ys) rise is =
    elim (or_cases (test y) (list_any test ys) is) [
      | inl here ↦ (y, rw (eq-eqb y.number y.number refl) refl, here)
      | inr behind ↦
          let found = any_object test y.number ys rise.1 behind in
          let above : y.number < found.0.number = of_above y.number ys found.0.number found.0 rise.1 found.1 in
          let other : y.number ≡ found.0.number → ⊥ = λ (e : y.number ≡ found.0.number). absurd (omega arith) in
          (found.0, rw (ne_eqb y.number found.0.number other) found.1, found.2)
    ]

pub any_from : (test : Object → Bool) (os : List Object) (n : ℕ) (x : Object) → object_of os n ≡ Some x → test x
    ≡ true → list_any test os ≡ true
unfolding object_of
any_from test [] n x is passes = absurd (none-some x is)
any_from test (y ∷ ys) n x is passes =
    elim (cases_Bool (nat_eq y.number n)) [
      | inl here ↦ let same : y ≡ x = same_Some y x (rw here at is) in or_left (test y) (list_any test ys)
          (rw same passes)
      | inr other ↦ or_right (test y) (list_any test ys) (any_from test ys n x (rw other at is) passes)
    ]

-- ---- within each closed set

-- one set within another
abbrev IsWithin : List ℕ → List ℕ → Type 0
IsWithin set other = (n : ℕ) → has set n ≡ true → has other n ≡ true

joins_within : (dir : Directory) (set other : List ℕ) → Rise dir.objects → IsClosed dir other → IsWithin set other
    → IsWithin (numbers_where (joins dir set) dir.objects) other
joins_within dir set other rise closed within n is =
    let live : is_live dir.objects n ≡ true = where_live (joins dir set) dir.objects n rise is in
    let number : (object_at dir.objects n).number ≡ n = at_number dir.objects n live in
    elim (or_cases (has set (object_at dir.objects n).number)
    (list_any (λ (g : Object). has set g.number && has_group dir (object_at dir.objects n) g) dir.objects)
    (where_passes (joins dir set) dir.objects n rise is)) [
      | inl there ↦ within n (rw number at there)
      | inr by_group ↦
          let found = any_object (λ (g : Object). has set g.number && has_group dir (object_at dir.objects n) g) 0
          dir.objects rise by_group in
          let group = found.0 in
          let parts = and_parts (has set found.0.number) (has_group dir (object_at dir.objects n) found.0) found.2 in
          closed.spreads n found.0.number live (live-of dir.objects found.0.number found.0 found.1)
          (within found.0.number parts.0)
          (rw (at-of dir.objects found.0.number found.0 found.1) parts.1)
    ]

grown_within : (dir : Directory) (k : ℕ) (set other : List ℕ) → Rise dir.objects → IsClosed dir other
    → IsWithin set other → IsWithin (grown dir k set) other
unfolding grown
grown_within dir zero set other rise closed within = within
grown_within dir (suc k) set other rise closed within = grown_within dir k (numbers_where (joins dir set) dir.objects)
    other rise closed (joins_within dir set other rise closed within)

-- where protection begins
seeds : Directory → List ℕ
seeds dir = numbers_where (λ o. begins_protection dir (sid_in dir.schema o)) dir.objects

seeds_within : (dir : Directory) (other : List ℕ) → Rise dir.objects → IsClosed dir other → IsWithin (seeds dir) other
unfolding seeds
seeds_within dir other rise closed n is =
    closed.begins n (where_live (λ (o : Object). begins_protection dir (sid_in dir.schema o)) dir.objects n rise is)
    (where_passes (λ (o : Object). begins_protection dir (sid_in dir.schema o)) dir.objects n rise is)

pub spread_within : (dir : Directory) → Rise dir.objects → (n : ℕ) → has (spread dir) n ≡ true → IsReachedBySpread dir n
unfolding spread seeds
spread_within dir rise n is other closed = grown_within dir (length dir.objects) (seeds dir) other rise closed
    (seeds_within dir other rise closed) n is

-- ---- closed itself

-- a set of live numbers is within what it grows to
stays_in : (dir : Directory) (test : Object → Bool) → Rise dir.objects → IsWithin (numbers_where test dir.objects)
    (numbers_where (joins dir (numbers_where test dir.objects)) dir.objects)
stays_in dir test rise n is =
    let live : is_live dir.objects n ≡ true = where_live test dir.objects n rise is in
    let number : (object_at dir.objects n).number ≡ n = at_number dir.objects n live in
    where_from (joins dir (numbers_where test dir.objects)) dir.objects n live
    (or_left (has (numbers_where test dir.objects) (object_at dir.objects n).number)
    (list_any (λ (g : Object). has (numbers_where test dir.objects) g.number
    && has_group dir (object_at dir.objects n) g) dir.objects) (rw number is))

grown_keeps : (dir : Directory) (k : ℕ) (test : Object → Bool) → Rise dir.objects
    → IsWithin (numbers_where test dir.objects) (grown dir k (numbers_where test dir.objects))
unfolding grown
grown_keeps dir zero test rise n is = is
grown_keeps dir (suc k) test rise n is = grown_keeps dir k (joins dir (numbers_where test dir.objects)) rise n
    (stays_in dir test rise n is)

-- the test of each object of the list that passes the first passes the second
AllPassToo : (first second : Object → Bool) (os : List Object) → Type 0
AllPassToo first second os = AllByRecursion (λ o. first o ≡ true → second o ≡ true) os

same_or_more : (first second : Object → Bool) (os : List Object) → AllPassToo first second os
    → (numbers_where first os ≡ numbers_where second os)
    ⊎ (length (numbers_where first os) < length (numbers_where second os))
unfolding AllPassToo
same_or_more first second [] all = inl refl
same_or_more first second (x ∷ xs) all =
    elim (cases_Bool (first x)) [
      | inl passes ↦ rw (passes, all.0 passes) (one_more (same_or_more first second xs all.1))
      | inr fails ↦ elim (cases_Bool (second x)) [
        | inl new ↦ rw (fails, new) (inr (no_fewer (same_or_more first second xs all.1)))
        | inr neither ↦ rw (fails, neither) (same_or_more first second xs all.1)
      ]
    ]
  where
    one_more : (numbers_where first xs ≡ numbers_where second xs)
        ⊎ (length (numbers_where first xs) < length (numbers_where second xs))
        → (x.number ∷ numbers_where first xs ≡ x.number ∷ numbers_where second xs)
        ⊎ (suc (length (numbers_where first xs)) < suc (length (numbers_where second xs)))
    one_more (inl same) = inl (ap (λ (ns : List ℕ). x.number ∷ ns) same)
    one_more (inr less) = inr (omega arith)

    no_fewer : (numbers_where first xs ≡ numbers_where second xs)
        ⊎ (length (numbers_where first xs) < length (numbers_where second xs)) → length (numbers_where first xs)
        < suc (length (numbers_where second xs))
    no_fewer (inl same) = let long : length (numbers_where first xs) ≡ length (numbers_where second xs)
        = ap length same in omega arith
    no_fewer (inr less) = omega arith

-- what holds of the object of each number holds of all objects of the list
pub all_objects : (P : Object → Type 0) (m : ℕ) (os : List Object) → RiseAbove m os
    → ((x : Object) → object_of os x.number ≡ Some x → P x) → AllByRecursion P os
unfolding object_of
all_objects P m [] rise each = tt
all_objects P m (y ∷ ys) rise each = (
  each y (rw (eq-eqb y.number y.number refl) refl),
  all_objects P y.number ys
      rise.1 behind,
)
  where
    behind : (x : Object) → object_of ys x.number ≡ Some x → P x
    behind x is =
        let above : y.number < x.number = of_above y.number ys x.number x rise.1 is in
        let other : y.number ≡ x.number → ⊥ = λ (e : y.number ≡ x.number). absurd (omega arith) in
        each x (rw (ne_eqb y.number x.number other) is)

joins_too : (dir : Directory) (test : Object → Bool) → Rise dir.objects
    → AllPassToo test (joins dir (numbers_where test dir.objects)) dir.objects
unfolding AllPassToo
joins_too dir test rise = all_objects (λ (o : Object). test o ≡ true → joins dir (numbers_where test dir.objects) o
    ≡ true) 0 dir.objects rise
    (λ x is passes. or_left (has (numbers_where test dir.objects) x.number)
    (list_any (λ (g : Object). has (numbers_where test dir.objects) g.number && has_group dir x g) dir.objects)
    (has_where test dir.objects x.number x is passes))

-- a set that doesn't grow stays
grown_fixed : (dir : Directory) (k : ℕ) (set : List ℕ) → numbers_where (joins dir set) dir.objects ≡ set
    → grown dir k set ≡ set
unfolding grown
grown_fixed dir zero set fixed = refl
grown_fixed dir (suc k) set fixed = ap (grown dir k) fixed ∙ grown_fixed dir k set fixed

-- it is one that doesn't grow, or each growth had an object more
IsFixed : Directory → List ℕ → Type 0
IsFixed dir set = numbers_where (joins dir set) dir.objects ≡ set

grows : (dir : Directory) (k : ℕ) (test : Object → Bool) → Rise dir.objects
    → IsFixed dir (grown dir k (numbers_where test dir.objects))
    ⊎ (k + length (numbers_where test dir.objects) ≤ length (grown dir k (numbers_where test dir.objects)))
unfolding grown IsFixed
grows dir zero test rise = inr (omega arith)
grows dir (suc k) test rise =
    by_growth (same_or_more test (joins dir (numbers_where test dir.objects)) dir.objects (joins_too dir test rise))
    (grows dir k (joins dir (numbers_where test dir.objects)) rise)
  where
    next : List ℕ
    next = numbers_where (joins dir (numbers_where test dir.objects)) dir.objects

    fixed : numbers_where test dir.objects ≡ next → IsFixed dir (grown dir k next)
    fixed same =
        let stays : numbers_where (joins dir next) dir.objects ≡ next
        = subst (λ (set : List ℕ). numbers_where (joins dir set) dir.objects ≡ next) same refl in
        subst (IsFixed dir) (sym (grown_fixed dir k next stays)) stays

    by_growth : (numbers_where test dir.objects ≡ next) ⊎ (length (numbers_where test dir.objects) < length next)
        → IsFixed dir (grown dir k next) ⊎ (k + length next ≤ length (grown dir k next))
        → IsFixed dir (grown dir k next) ⊎ (suc k + length (numbers_where test dir.objects) ≤ length (grown dir k next))
    by_growth (inl same) rest = inl (fixed same)
    by_growth (inr less) (inl ends) = inl ends
    by_growth (inr less) (inr many) = inr (omega arith)

-- where all objects are in the set, each live number is
fewer : (test : Object → Bool) (os : List Object) → length (numbers_where test os) ≤ length os
fewer test [] = omega arith
fewer test (x ∷ xs) =
    let rest : length (numbers_where test xs) ≤ length xs = fewer test xs in
    elim (cases_Bool (test x)) [
      | inl passes ↦ rw passes (omega arith)
      | inr fails ↦ rw fails (omega arith)
    ]

all_pass : (test : Object → Bool) (os : List Object) (n : ℕ) (x : Object) → length os ≤ length (numbers_where test os)
    → object_of os n ≡ Some x → test x ≡ true
unfolding object_of
all_pass test [] n x many is = absurd (none-some x is)
all_pass test (y ∷ ys) n x many is =
    elim (cases_Bool (test y)) [
      | inl passes ↦ elim (cases_Bool (nat_eq y.number n)) [
        | inl here ↦ let same : y ≡ x = same_Some y x (rw here at is) in rw (← same) passes
        | inr other ↦
            let long = rw passes at many in
            let rest : length ys ≤ length (numbers_where test ys) = omega (arith, long) in
            all_pass test ys n x rest (rw other at is)
      ]
      | inr fails ↦
          let long = rw fails at many in
          let few : length (numbers_where test ys) ≤ length ys = fewer test ys in
          absurd (omega (arith, long, few))
    ]

full : (dir : Directory) (k : ℕ) (test : Object → Bool) (n : ℕ) → length dir.objects
    ≤ length (grown dir k (numbers_where test dir.objects)) → is_live dir.objects n ≡ true
    → has (grown dir k (numbers_where test dir.objects)) n ≡ true
unfolding grown
full dir zero test n many live = where_from test dir.objects n live
    (all_pass test dir.objects n (object_at dir.objects n) many (of-live dir.objects n live))
full dir (suc k) test n many live = full dir k (joins dir (numbers_where test dir.objects)) n many live

spread_closed : (dir : Directory) → Rise dir.objects → IsClosed dir (spread dir)
unfolding spread IsFixed
spread_closed dir rise = record {
  begins = λ n live seed. grown_keeps dir (length dir.objects) begins rise n
      (where_from begins dir.objects n live seed);
  spreads = λ n group live group_live in_set has. by_growth n group live group_live in_set has
      (grows dir (length dir.objects) begins rise);
}
  where
    begins : Object → Bool
    begins o = begins_protection dir (sid_in dir.schema o)

    set : List ℕ
    set = grown dir (length dir.objects) (numbers_where begins dir.objects)

    by_growth : (n group : ℕ) → is_live dir.objects n ≡ true → is_live dir.objects group ≡ true → has set group ≡ true
        → has_group dir (object_at dir.objects n) (object_at dir.objects group) ≡ true
        → IsFixed dir set ⊎ (length dir.objects + length (numbers_where begins dir.objects) ≤ length set) → has set n
        ≡ true
    by_growth n group live group_live in_set has_it (inl fixed) =
        let number : (object_at dir.objects group).number ≡ group = at_number dir.objects group group_live in
        let joined : joins dir set (object_at dir.objects n) ≡ true =
        or_right (has set (object_at dir.objects n).number)
        (list_any (λ (g : Object). has set g.number && has_group dir (object_at dir.objects n) g) dir.objects)
        (any_from (λ (g : Object). has set g.number && has_group dir (object_at dir.objects n) g) dir.objects group
        (object_at dir.objects group) (of-live dir.objects group group_live)
        (and_from (has set (object_at dir.objects group).number)
        (has_group dir (object_at dir.objects n) (object_at dir.objects group)) (rw number in_set) has_it)) in
        subst (λ (s : List ℕ). has s n ≡ true) fixed (where_from (joins dir set) dir.objects n live joined)
    by_growth n group live group_live in_set has_it (inr many) = full dir (length dir.objects) begins n (omega arith)
        live

-- ---- protected objects

pub protected_is : (dir : Directory) (n : ℕ) → Rise dir.objects → has (protected dir) n ≡ true → IsProtected dir n
unfolding protected
protected_is dir n rise is =
    let test = λ (o : Object). has (spread dir) o.number || is_protected_alone dir (sid_in dir.schema o) in
    let live : is_live dir.objects n ≡ true
    = where_live (λ (o : Object). has (spread dir) o.number || is_protected_alone dir (sid_in dir.schema o))
    dir.objects n rise is in
    let number : (object_at dir.objects n).number ≡ n = at_number dir.objects n live in
    record {
      live = live;
      reason = elim (or_cases (has (spread dir) (object_at dir.objects n).number)
          (is_protected_alone dir (self_sid dir n))
          (where_passes (λ (o : Object). has (spread dir) o.number || is_protected_alone dir (sid_in dir.schema o))
          dir.objects n rise is)) [
            | inl reached ↦ inl (spread_within dir rise n (rw number at reached))
            | inr alone ↦ inr alone
          ];
    }

pub is_protected : (dir : Directory) (n : ℕ) → Rise dir.objects → IsProtected dir n → has (protected dir) n ≡ true
unfolding protected
is_protected dir n rise is =
    where_from (λ (o : Object). has (spread dir) o.number || is_protected_alone dir (sid_in dir.schema o)) dir.objects
    n is.live
    (elim is.reason [
      | inl reached ↦
          let number : (object_at dir.objects n).number ≡ n = at_number dir.objects n is.live in
          or_left (has (spread dir) (object_at dir.objects n).number) (is_protected_alone dir (self_sid dir n))
          (rw number (reached (spread dir) (spread_closed dir rise)))
      | inr alone ↦ or_right (has (spread dir) (object_at dir.objects n).number)
          (is_protected_alone dir (self_sid dir n)) alone
    ])
