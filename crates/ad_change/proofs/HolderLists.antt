-- What loses links, where one object goes alone, holds a link to it.
use Rattle.std.proofs.Common.{◌≡◌, ℕ, Bool, true, false, List, [], ◌∷◌, Some, inl, inr, refl, sym, ap, ◌∙◌}
use Rattle.std.specs.Prelude.{nat_eq, filter}
use Rattle.std.specs.List.{AllByRecursion, list_any}
use Rattle.std.proofs.lemmas.Bool.{cases_Bool}
use Rattle.ad_dir_model.specs.Object.{Stored, plain, link, Held, Object, names}
use Rattle.ad_dir_model.specs.Objects.{Rise, object_of, object_at, is_live}
use Rattle.ad_dir_model.specs.Directory.{Directory}
use Rattle.ad_dir_model.specs.Changes.{goes_with}
use Rattle.ad_dir_model.specs.Protection.{numbers_where}
use Rattle.ad_dir_model.proofs.Finding.{at-of, live-of, all_found}
use Rattle.ad_dir.specs.Holders.{links_to, holders}
use Rattle.ad_change.specs.Removing.{IsLeaving, loses_some, loses, losing_among, losing_of}
use Rattle.ad_change.proofs.SubtreeLaws.{goes_alone}

lost_is : (goes : ℕ → Bool) (target : ℕ) → ((n : ℕ) → goes n ≡ nat_eq n target) → (values : List Stored)
    → loses_some goes values ≡ names target values
lost_is goes target is [] = refl
lost_is goes target is (plain v ∷ values) = lost_is goes target is values
lost_is goes target is (link n ∷ values) = elim (cases_Bool (nat_eq n target)) [
  | inl same ↦ let gone : goes n ≡ true = is n ∙ same in rw (gone, same) refl
  | inr other ↦ let stays : goes n ≡ false = is n ∙ other in rw (stays, other) (lost_is goes target is values)
]

all_lost : (goes : ℕ → Bool) (target : ℕ) → ((n : ℕ) → goes n ≡ nat_eq n target) → (values : List Held)
    → list_any (λ (held : Held). loses_some goes held.values) values
    ≡ list_any (λ (held : Held). names target held.values) values
all_lost goes target is [] = refl
all_lost goes target is (held ∷ others) = elim (cases_Bool (names target held.values)) [
  | inl here ↦ let lost : loses_some goes held.values ≡ true = lost_is goes target is held.values ∙ here
      in rw (lost, here) refl
  | inr none ↦ let kept : loses_some goes held.values ≡ false = lost_is goes target is held.values ∙ none
      in rw (kept, none) (all_lost goes target is others)
]

loses_as : (goes : ℕ → Bool) (target : ℕ) → ((n : ℕ) → goes n ≡ nat_eq n target) → (o : Object) → loses goes o
    ≡ links_to target o
unfolding loses
loses_as goes target is o = all_lost goes target is o.values

-- ---- the numbers of those that pass one test or the other

where_same : (test other : Object → Bool) (os : List Object) → ((o : Object) → other o ≡ test o)
    → numbers_where test os ≡ numbers_where other os
where_same test other [] same = refl
where_same test other (o ∷ os) same = elim (cases_Bool (test o)) [
  | inl passes ↦ let also : other o ≡ true = same o ∙ passes
      in rw (passes, also) (ap (λ (ns : List ℕ). o.number ∷ ns) (where_same test other os same))
  | inr fails ↦ let also : other o ≡ false = same o ∙ fails in rw (fails, also) (where_same test other os same)
]

all_pass : (test : Object → Bool) (os xs : List Object)
    → AllByRecursion (λ (o : Object). object_of os o.number ≡ Some o) xs
    → filter (λ (n : ℕ). test (object_at os n)) (numbers_where test xs) ≡ numbers_where test xs
all_pass test os [] found = refl
all_pass test os (x ∷ xs) found = elim (cases_Bool (test x)) [
  | inl passes ↦
      let at : test (object_at os x.number) ≡ true = ap test (at-of os x.number x found.0) ∙ passes in
      rw (passes, at) (ap (λ (ns : List ℕ). x.number ∷ ns) (all_pass test os xs found.1))
  | inr fails ↦ rw fails (all_pass test os xs found.1)
]

all_live : (test : Object → Bool) (os xs : List Object)
    → AllByRecursion (λ (o : Object). object_of os o.number ≡ Some o) xs
    → AllByRecursion (λ (n : ℕ). is_live os n ≡ true) (numbers_where test xs)
all_live test os [] found = tt
all_live test os (x ∷ xs) found = elim (cases_Bool (test x)) [
  | inl passes ↦ rw passes (live-of os x.number x found.0, all_live test os xs found.1)
  | inr fails ↦ rw fails (all_live test os xs found.1)
]

pub holders_live : (os : List Object) (target : ℕ) → Rise os → AllByRecursion (λ (n : ℕ). is_live os n ≡ true)
    (holders os target)
holders_live os target rise = all_live (links_to target) os os (all_found 0 os rise)

pub holders_lose : (dir : Directory) (target : ℕ) → Rise dir.objects → IsLeaving dir target true
    → losing_among dir target (holders dir.objects target) ≡ losing_of dir target
holders_lose dir target rise leaving =
    ap (losing_among dir target) (sym same)
    ∙ all_pass (loses (goes_with dir target)) dir.objects dir.objects (all_found 0 dir.objects rise)
  where
    same : losing_of dir target ≡ holders dir.objects target
    same = where_same (loses (goes_with dir target)) (links_to target) dir.objects
        (λ o. sym (loses_as (goes_with dir target) target (λ n. goes_alone dir target n rise leaving) o))
