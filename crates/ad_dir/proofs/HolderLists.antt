-- Who holds links, found one after the other.
use Rattle.std.proofs.Common.{◌≡◌, ℕ, ◌<◌, ◌≤◌, Bool, true, false, List, [], ◌∷◌, ◌++◌, Option, Some, None, inl, inr}
use Rattle.std.proofs.Common.{refl, sym, subst, ap, ◌∙◌, arith}
use Rattle.std.specs.Prelude.{nat_eq, filter, if◌then◌else◌}
use Rattle.std.specs.Option.{option_map_or}
use Rattle.std.specs.List.{AllByRecursion}
use Rattle.std.proofs.lemmas.Bool.{cases_Bool, cases_lt, both_ways, eqb-true, eqb-false, eq-eqb, ne_eqb, false≢true}
use Rattle.std.proofs.lemmas.List.{append-nil}
use Rattle.ad_dir_table.specs.Lists.{RiseFrom}
use Rattle.ad_dir_model.specs.Object.{Object}
use Rattle.ad_dir_model.specs.Objects.{RiseAbove, Rise, object_of, object_at, is_live}
use Rattle.ad_dir_model.specs.Protection.{has, numbers_where}
use Rattle.ad_dir_model.proofs.Finding.{at-of, live-of, live_above, all_found}
use Rattle.ad_dir.specs.Holders.{links_to, holders, is_holder, IsNextHolder}

-- ---- two rising lists

not_in : (m n : ℕ) (ns : List ℕ) → RiseFrom m ns → n ≤ m → has ns n ≡ false
not_in m n [] rise le = refl
not_in m n (k ∷ ks) rise le =
    let above : m < k = rise.0 in
    rw (ne_eqb k n (λ (e : k ≡ n). absurd (omega (arith, e)))) (not_in k n ks rise.1 (omega arith))

live_behind : (x : Object) (xs : List Object) (n : ℕ) → is_live (x ∷ xs) n ≡ true → (x.number ≡ n → ⊥) → is_live xs n
    ≡ true
unfolding object_of
live_behind x xs n live apart = rw (ne_eqb x.number n apart) at live

lives_behind : (x : Object) (xs : List Object) (n : ℕ) (ns : List ℕ) → x.number ≤ n → RiseFrom n ns
    → AllByRecursion (λ (k : ℕ). is_live (x ∷ xs) k ≡ true) ns
    → AllByRecursion (λ (k : ℕ). is_live xs k ≡ true) ns
lives_behind x xs n [] le rise live = tt
lives_behind x xs n (k ∷ ks) le rise live =
    let above : n < k = rise.0 in (
      live_behind x xs k live.0 (λ (e : x.number ≡ k). absurd (omega (arith, e))),
      lives_behind x xs k ks (omega arith)
          rise.1 live.1,
    )

has_behind : (test : Object → Bool) (n m : ℕ) (ns : List ℕ) (xs : List Object) → n ≤ m → RiseAbove m xs
    → AllByRecursion (λ (o : Object). test o ≡ true → has (n ∷ ns) o.number ≡ true) xs
    → AllByRecursion (λ (o : Object). test o ≡ true → has ns o.number ≡ true) xs
has_behind test n m ns [] le rise all = tt
has_behind test n m ns (x ∷ xs) le rise all =
    let above : m < x.number = rise.0 in (
      λ passes. rw (ne_eqb n x.number (λ (e : n ≡ x.number). absurd (omega (arith, e)))) at (all.0 passes),
      has_behind test n x.number ns xs (omega arith) rise.1 all.1,
    )

-- those that pass a test are the same, where all that pass are among the numbers
merged : (test : Object → Bool) (at : ℕ → Bool) (m : ℕ) (os : List Object) (ns : List ℕ) → RiseAbove m os
    → RiseFrom m ns
    → AllByRecursion (λ (o : Object). at o.number ≡ test o) os → AllByRecursion (λ (n : ℕ). is_live os n ≡ true) ns
    → AllByRecursion (λ (o : Object). test o ≡ true → has ns o.number ≡ true) os → filter at ns ≡ numbers_where test os
unfolding object_of
merged test at m [] [] rise_os rise_ns same live all = refl
merged test at m [] (n ∷ ns) rise_os rise_ns same live all = absurd (false≢true live.0)
merged test at m (x ∷ xs) [] rise_os rise_ns same live all = elim (cases_Bool (test x)) [
  | inl passes ↦ absurd (false≢true (all.0 passes))
  | inr fails ↦ rw fails (merged test at x.number xs [] rise_os.1 tt same.1 tt all.1)
]
merged test at m (x ∷ xs) (n ∷ ns) rise_os rise_ns same live all = elim (cases_Bool (nat_eq x.number n)) [
  | inl here ↦
      let e : x.number ≡ n = eqb-true x.number n here in
      let rest = merged test at x.number xs ns rise_os.1 (subst (λ (k : ℕ). RiseFrom k ns) (sym e) rise_ns.1) same.1
      (lives_behind x xs n ns (omega (arith, e)) rise_ns.1 live.1)
      (has_behind test n x.number ns xs (omega (arith, e)) rise_os.1 all.1) in
      let at_n : at n ≡ test x = ap at (sym e) ∙ same.0 in
      elim (cases_Bool (test x)) [
        | inl passes ↦ let taken : at n ≡ true = at_n ∙ passes
            in rw (passes, taken) (ap (λ (ks : List ℕ). n ∷ ks) rest ∙ ap (λ (k : ℕ). k ∷ numbers_where test xs)
            (sym e))
        | inr fails ↦ let left : at n ≡ false = at_n ∙ fails in rw (fails, left) rest
      ]
  | inr other ↦
      let apart : x.number ≡ n → ⊥ = eqb-false x.number n other in
      let live_n : is_live xs n ≡ true = live_behind x xs n live.0 apart in
      let above : x.number < n = live_above x.number xs n rise_os.1 live_n in
      let lacks : has (n ∷ ns) x.number ≡ false = not_in x.number x.number (n ∷ ns) (above, rise_ns.1) (omega arith) in
      let rest = merged test at x.number xs (n ∷ ns) rise_os.1 (above, rise_ns.1) same.1
      (live_n, lives_behind x xs n ns (omega (arith, above)) rise_ns.1 live.1) all.1 in
      elim (cases_Bool (test x)) [
        | inl passes ↦ absurd (both_ways (has (n ∷ ns) x.number) lacks (all.0 passes))
        | inr fails ↦ rw fails rest
      ]
]

all_map : (P Q : Object → Type 0) (os : List Object) → ((o : Object) → P o → Q o) → AllByRecursion P os
    → AllByRecursion Q os
all_map P Q [] f all = tt
all_map P Q (o ∷ os) f all = (f o all.0, all_map P Q os f all.1)

-- ---- one more

-- the number is that of a live object that holds a link
abbrev Holds : List Object → ℕ → ℕ → Type 0
Holds os target n = (is_live os n ≡ true) × (links_to target (object_at os n) ≡ true)

pub record IsUpTo (os : List Object) (target above : ℕ) (ns : List ℕ) : Type 0 where
  pub rise : RiseFrom 0 ns
  pub within : AllByRecursion (λ (n : ℕ). n ≤ above) ns
  pub each : AllByRecursion (Holds os target) ns
  pub all : (number : ℕ) (o : Object) → object_of os number ≡ Some o → links_to target o ≡ true → number ≤ above
      → has ns number ≡ true

holds : (os : List Object) (target n : ℕ) → is_holder os target n ≡ true → Holds os target n
holds os target n is = by_found (object_of os n) refl is
  where
    by_found : (found : Option Object) → object_of os n ≡ found → option_map_or (links_to target) found false ≡ true
        → Holds os target n
    by_found None at is = absurd (false≢true is)
    by_found (Some o) at is = (live-of os n o at, ap (links_to target) (at-of os n o at) ∙ is)

holder_found : (os : List Object) (target n : ℕ) (o : Object) → object_of os n ≡ Some o → links_to target o ≡ true
    → is_holder os target n ≡ true
holder_found os target n o at is = ap (λ (found : Option Object). option_map_or (links_to target) found false) at ∙ is

rise_push : (k above next : ℕ) (ns : List ℕ) → RiseFrom k ns → AllByRecursion (λ (n : ℕ). n ≤ above) ns → k < next
    → above < next → RiseFrom k (ns ++ next ∷ [])
rise_push k above next [] rise within more behind = (more, tt)
rise_push k above next (n ∷ ns) rise within more behind =
    let le : n ≤ above = within.0 in
    (rise.0, rise_push n above next ns rise.1 within.1 (omega (arith, le, behind)) behind)

all_more : (P Q : ℕ → Type 0) (ns : List ℕ) → ((n : ℕ) → P n → Q n) → AllByRecursion P ns → AllByRecursion Q ns
all_more P Q [] f all = tt
all_more P Q (n ∷ ns) f all = (f n all.0, all_more P Q ns f all.1)

all_push : (P : ℕ → Type 0) (ns : List ℕ) (n : ℕ) → AllByRecursion P ns → P n → AllByRecursion P (ns ++ n ∷ [])
all_push P [] n all here = (here, tt)
all_push P (k ∷ ks) n all here = (all.0, all_push P ks n all.1 here)

has_push : (ns : List ℕ) (n k : ℕ) → has ns k ≡ true → has (ns ++ n ∷ []) k ≡ true
has_push [] n k is = absurd (false≢true is)
has_push (m ∷ ms) n k is = elim (cases_Bool (nat_eq m k)) [
  | inl here ↦ rw here refl
  | inr other ↦ rw other (has_push ms n k (rw other at is))
]

has_last : (ns : List ℕ) (n : ℕ) → has (ns ++ n ∷ []) n ≡ true
has_last [] n = rw (eq-eqb n n refl) refl
has_last (m ∷ ms) n = elim (cases_Bool (nat_eq m n)) [
  | inl here ↦ rw here refl
  | inr other ↦ rw other (has_last ms n)
]

pub none_yet : (os : List Object) (target : ℕ) (ns : List ℕ) → Rise os → ns ≡ [] → IsUpTo os target 0 ns
none_yet os target ns rise none = subst (IsUpTo os target 0) (sym none) (record {
  rise = tt;
  within = tt;
  each = tt;
  all = λ n o at is le. let above : 0 < n = live_above 0 os n rise (live-of os n o at)
      in absurd (omega (arith, above, le));
})

pub one_more : (os : List Object) (target above next : ℕ) (ns after : List ℕ) → IsNextHolder os target above (Some next)
    → after ≡ ns ++ (if is_holder os target next then next ∷ [] else []) → IsUpTo os target above ns
    → IsUpTo os target next after
one_more os target above next ns after is made so_far = elim (cases_Bool (is_holder os target next)) [
  | inl one ↦
      let pushed : after ≡ ns ++ next ∷ [] = rw one at made in
      subst (IsUpTo os target next) (sym pushed) (record {
        rise = rise_push 0 above next ns so_far.rise so_far.within (omega (arith, behind)) behind;
        within = all_push (λ n. n ≤ next) ns next lower (omega arith);
        each = all_push (Holds os target) ns next so_far.each (holds os target next one);
        all = λ n o at holder le. elim (cases_lt above n) [
          | inl more ↦
              let least : next ≤ n = is.each n o at holder more in
              let same : next ≡ n = omega (arith, least, le) in
              subst (λ (k : ℕ). has (ns ++ next ∷ []) k ≡ true) same (has_last ns next)
          | inr less ↦ has_push ns next n (so_far.all n o at holder less)
        ];
      })
  | inr none ↦
      let stays : after ≡ ns = (rw none at made) ∙ append-nil ns in
      subst (IsUpTo os target next) (sym stays) (record {
        rise = so_far.rise;
        within = lower;
        each = so_far.each;
        all = λ n o at holder le. elim (cases_lt above n) [
          | inl more ↦
              let least : next ≤ n = is.each n o at holder more in
              let same : next ≡ n = omega (arith, least, le) in
              absurd (both_ways (is_holder os target n) (subst (λ (k : ℕ). is_holder os target k ≡ false) same none)
              (holder_found os target n o at holder))
          | inr less ↦ so_far.all n o at holder less
        ];
      })
]
  where
    behind : above < next
    behind = is.is_above

    lower : AllByRecursion (λ (n : ℕ). n ≤ next) ns
    lower = all_more (λ n. n ≤ above) (λ n. n ≤ next) ns (λ n (le : n ≤ above). omega (arith, le, behind)) so_far.within

-- ---- all of them

all_pass : (at : ℕ → Bool) (ns : List ℕ) → AllByRecursion (λ (n : ℕ). at n ≡ true) ns → filter at ns ≡ ns
all_pass at [] all = refl
all_pass at (n ∷ ns) all = let here : at n ≡ true = all.0
    in rw here (ap (λ (ks : List ℕ). n ∷ ks) (all_pass at ns all.1))

pub all_holders : (os : List Object) (target above : ℕ) (ns : List ℕ) → Rise os → IsNextHolder os target above None
    → IsUpTo os target above ns → ns ≡ holders os target
all_holders os target above ns rise is so_far =
    sym (all_pass at ns (all_more (Holds os target) (λ n. at n ≡ true) ns (λ n h. h.1) so_far.each))
    ∙ merged (links_to target) at 0 os ns rise so_far.rise
    (all_map (λ o. object_of os o.number ≡ Some o) _ os (λ o there. ap (links_to target) (at-of os o.number o there))
    found)
    (all_more (Holds os target) (λ n. is_live os n ≡ true) ns (λ n h. h.0) so_far.each)
    (all_map (λ o. object_of os o.number ≡ Some o) _ os (λ o there holder. elim (cases_lt above o.number) [
      | inl more ↦ absurd (is.each o.number o there holder more)
      | inr less ↦ so_far.all o.number o there holder less
    ]) found)
  where
    at : ℕ → Bool
    at n = links_to target (object_at os n)

    found : AllByRecursion (λ (o : Object). object_of os o.number ≡ Some o) os
    found = all_found 0 os rise
