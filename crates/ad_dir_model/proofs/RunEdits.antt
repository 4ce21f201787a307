-- The edits of a protection run make what the run is defined to make.
use Rattle.std.proofs.Common.{◌≡◌, ℕ, zero, suc, ◌<◌, ◌≤◌, Bool, true, false, not, cond, List, [], ◌∷◌, ◌++◌, map}
use Rattle.std.proofs.Common.{Option, Some, None, ◌⊎◌, inl, inr, refl, sym, subst, ap, arith, ◌∙◌}
use Rattle.std.specs.Prelude.{nat_eq, if◌then◌else◌, filter, ◌&&◌, ◌||◌}
use Rattle.std.specs.List.{AllByRecursion, list_any}
use Rattle.std.proofs.lemmas.Bool.{eqb-true, eqb-false, ne_eqb, eq-eqb, cases_Bool, false≢true, both_ways, or_cases}
use Rattle.std.proofs.lemmas.Bool.{or_left, or_right, or_parts, or_from, and_parts, false_from_ne_true, not-false}
use Rattle.ad_sd.specs.declared.parts.Sd.{Sd}
use Rattle.prop_queue.specs.declared.pending.Pending.{Pending}
use Rattle.ad_dir_model.specs.Object.{Object}
use Rattle.ad_dir_model.specs.Objects.{RiseAbove, Rise, object_of, is_live, object_at, sd_at, put}
use Rattle.ad_dir_model.specs.Identity.{sid_in}
use Rattle.ad_dir_model.specs.Directory.{Directory, Edit, put_object, put_queue, with_objects, with_pending, edited}
use Rattle.ad_dir_model.specs.Directory.{all_edited}
use Rattle.ad_dir_model.specs.SameSd.{same_sd}
use Rattle.ad_dir_model.specs.Inheritance.{marked_if_changed, stored}
use Rattle.ad_dir_model.specs.Names.{admin_sd_holder}
use Rattle.ad_dir_model.specs.Protection.{frozen, is_protected_alone, has, numbers_where, spread, protected}
use Rattle.ad_dir_model.specs.Protection.{admin_count, has_mark, protected_object, all_protected, changes, run_from}
use Rattle.ad_dir_model.specs.Protection.{protection_run}
use Rattle.ad_dir_model.specs.Edits.{protecting, all_marked, protect_edits, holder_edits, run_edits}
use Rattle.ad_dir_model.proofs.Finding.{of-live, at_number, live_above, of_above, at-put_other}
use Rattle.ad_dir_model.proofs.SameSdLaws.{same_sd-is}
use Rattle.ad_dir_model.proofs.LeastSet.{IsWhere, where_is}
use Rattle.ad_dir_model.proofs.Marking.{number_kept}
use Rattle.ad_dir_model.proofs.Running.{IsDone, protected_live}
use Rattle.ad_dir_model.proofs.Alike.{with_those}
use Rattle.ad_dir_model.proofs.SecondRun.{putting_same}
use Rattle.ad_dir_model.proofs.Extent.{same_objects}
use Rattle.ad_dir_model.proofs.EditLaws.{edited_append, puts, puts_edited, puts_other, puts_has, rise_puts, all_by}

-- ---- numbers of objects that rise are distinct

unfoldable pub AreApart : List ℕ → Type 0
AreApart [] = Unit {0}
AreApart (n ∷ ns) = (has ns n ≡ false) × AreApart ns

apart_where : (test : Object → Bool) (m : ℕ) (os : List Object) → RiseAbove m os → AreApart (numbers_where test os)
unfolding AreApart
apart_where test m [] rise = tt
apart_where test m (x ∷ xs) rise =
    elim (cases_Bool (test x)) [
      | inl passes ↦ rw passes (
        false_from_ne_true (has (numbers_where test xs) x.number) (λ is.
            let found : IsWhere test xs x.number = where_is test x.number xs x.number rise.1 is in
            let above : x.number < x.number = of_above x.number xs x.number found.object rise.1 found.live in
            absurd (omega arith)),
        apart_where test x.number xs rise.1,
      )
      | inr fails ↦ rw fails (apart_where test x.number xs rise.1)
    ]

-- ---- the run as puts and marks

protecting_number : (dir : Directory) (sd : Sd) (n : ℕ) → is_live dir.objects n ≡ true → (protecting dir sd n).number
    ≡ n
protecting_number dir sd n live = number_kept dir sd (object_at dir.objects n) ∙ at_number dir.objects n live

one_more : (base : Directory) (sd : Sd) (n : ℕ) (os : List Object) (ps : List Pending) → is_live base.objects n ≡ true
    → object_at os n ≡ object_at base.objects n
    → stored (with_those base os ps) (protected_object (with_those base os ps) sd (object_at os n))
    ≡ with_those base (put (protecting base sd n) os)
    (marked_if_changed (sd_at base.objects (protecting base sd n).number) (protecting base sd n) ps)
unfolding stored protected_object
one_more base sd n os ps live same =
    let number : (protecting base sd n).number ≡ n = protecting_number base sd n live in
    let before : sd_at os (protecting base sd n).number ≡ sd_at base.objects (protecting base sd n).number
    = ap (sd_at os) number ∙ ap (λ (x : Object). x.sd) same ∙ ap (sd_at base.objects) (sym number) in
    ap (λ (x : Object). stored (with_those base os ps) (protected_object base sd x)) same
    ∙ ap (λ (own : Sd). with_those base (put (protecting base sd n) os)
    (marked_if_changed own (protecting base sd n) ps)) before

run_is : (base : Directory) (sd : Sd) (ns : List ℕ) (os : List Object) (ps : List Pending) → AreApart ns
    → AllByRecursion (λ (n : ℕ). is_live base.objects n ≡ true) ns
    → ((n : ℕ) → has ns n ≡ true → object_at os n ≡ object_at base.objects n)
    → all_protected sd ns (with_those base os ps) ≡ with_those base (puts (protecting base sd) ns os)
    (all_marked base sd ns ps)
unfolding all_protected puts all_marked AreApart
run_is base sd [] os ps apart live same = refl
run_is base sd (n ∷ ns) os ps apart live same =
    ap (all_protected sd ns) (one_more base sd n os ps live.0
    (same n (or_left (nat_eq n n) (has ns n) (eq-eqb n n refl))))
    ∙ run_is base sd ns (put (protecting base sd n) os)
    (marked_if_changed (sd_at base.objects (protecting base sd n).number) (protecting base sd n) ps) apart.1
    live.1
    (λ m in_rest.
    let number : (protecting base sd n).number ≡ n = protecting_number base sd n live.0 in
    let other : (protecting base sd n).number ≡ m → ⊥ = λ (e : (protecting base sd n).number ≡ m). both_ways
    (has ns m) (subst (λ (k : ℕ). has ns k ≡ false) (sym number ∙ e) apart.0) in_rest in
    at-put_other (protecting base sd n) os m other ∙ same m (or_right (nat_eq n m) (has ns m) in_rest))

-- ---- only those that change

has_filter : (test : ℕ → Bool) (ns : List ℕ) (n : ℕ) → has (filter test ns) n ≡ true → has ns n ≡ true
has_filter test [] n is = is
has_filter test (k ∷ ks) n is =
    elim (cases_Bool (test k)) [
      | inl passes ↦ elim (or_cases (nat_eq k n) (has (filter test ks) n) (rw passes at is)) [
        | inl here ↦ or_left (nat_eq k n) (has ks n) here
        | inr behind ↦ or_right (nat_eq k n) (has ks n) (has_filter test ks n behind)
      ]
      | inr fails ↦ or_right (nat_eq k n) (has ks n) (has_filter test ks n (rw fails at is))
    ]

in_filter : (test : ℕ → Bool) (ns : List ℕ) (n : ℕ) → has ns n ≡ true → test n ≡ true → has (filter test ns) n ≡ true
in_filter test [] n is passes = is
in_filter test (k ∷ ks) n is passes =
    elim (or_cases (nat_eq k n) (has ks n) is) [
      | inl here ↦
          let first : test k ≡ true = ap test (eqb-true k n here) ∙ passes in
          rw first (or_left (nat_eq k n) (has (filter test ks) n) here)
      | inr behind ↦ elim (cases_Bool (test k)) [
        | inl first ↦ rw first (or_right (nat_eq k n) (has (filter test ks) n) (in_filter test ks n behind passes))
        | inr fails ↦ rw fails (in_filter test ks n behind passes)
      ]
    ]

filtered_out : (test : ℕ → Bool) (ns : List ℕ) (n : ℕ) → test n ≡ false → has (filter test ns) n ≡ false
filtered_out test [] n fails = refl
filtered_out test (k ∷ ks) n fails =
    elim (cases_Bool (test k)) [
      | inl first ↦
          let other : k ≡ n → ⊥ = λ (e : k ≡ n). both_ways (test n) fails (ap test (sym e) ∙ first) in
          rw first (or_from (nat_eq k n) (has (filter test ks) n) (ne_eqb k n other) (filtered_out test ks n fails))
      | inr not_first ↦ rw not_first (filtered_out test ks n fails)
    ]

-- one that doesn't change is put as it is
unchanged : (dir : Directory) (sd : Sd) (n : ℕ) → changes dir sd n ≡ false → protecting dir sd n
    ≡ object_at dir.objects n
unchanged dir sd n same =
    let parts = and_parts (same_sd (sd_at dir.objects n) sd)
    (has_mark (admin_count dir.schema) (object_at dir.objects n))
    (not-false (same_sd (sd_at dir.objects n) sd && has_mark (admin_count dir.schema) (object_at dir.objects n))
    same) in
    putting_same dir sd n (record { sd_is = same_sd-is (sd_at dir.objects n) sd parts.0; marked = parts.1 })

numbers_of : (dir : Directory) (sd : Sd) (ns : List ℕ) → ((n : ℕ) → has ns n ≡ true → is_live dir.objects n ≡ true)
    → AllByRecursion (λ (k : ℕ). (protecting dir sd k).number ≡ k) ns
numbers_of dir sd ns live = all_by (λ (k : ℕ). (protecting dir sd k).number ≡ k) ns
    (λ n is. protecting_number dir sd n (live n is))

above_of : (dir : Directory) (sd : Sd) (ns : List ℕ) → Rise dir.objects
    → ((n : ℕ) → has ns n ≡ true → is_live dir.objects n ≡ true)
    → AllByRecursion (λ (k : ℕ). 0 < (protecting dir sd k).number) ns
above_of dir sd ns rise live = all_by (λ (k : ℕ). 0 < (protecting dir sd k).number) ns
    (λ n is. rw (protecting_number dir sd n (live n is)) (live_above 0 dir.objects n rise (live n is)))

only_changed : (dir : Directory) (sd : Sd) (ns : List ℕ) → Rise dir.objects
    → ((n : ℕ) → has ns n ≡ true → is_live dir.objects n ≡ true)
    → puts (protecting dir sd) (filter (changes dir sd) ns) dir.objects ≡ puts (protecting dir sd) ns dir.objects
only_changed dir sd ns rise live =
    same_objects 0 (puts (protecting dir sd) some dir.objects) (puts (protecting dir sd) ns dir.objects)
    (rise_puts (protecting dir sd) some dir.objects rise (above_of dir sd some rise some_live))
    (rise_puts (protecting dir sd) ns dir.objects rise (above_of dir sd ns rise live))
    (λ n. by_case n (cases_Bool (has ns n)) (cases_Bool (changes dir sd n)))
  where
    some : List ℕ
    some = filter (changes dir sd) ns

    some_live : (n : ℕ) → has some n ≡ true → is_live dir.objects n ≡ true
    some_live n is = live n (has_filter (changes dir sd) ns n is)

    some_numbers : AllByRecursion (λ (k : ℕ). (protecting dir sd k).number ≡ k) some
    some_numbers = numbers_of dir sd some some_live

    all_numbers : AllByRecursion (λ (k : ℕ). (protecting dir sd k).number ≡ k) ns
    all_numbers = numbers_of dir sd ns live

    by_case : (n : ℕ) → (has ns n ≡ true) ⊎ (has ns n ≡ false) → (changes dir sd n ≡ true) ⊎ (changes dir sd n ≡ false)
        → object_of (puts (protecting dir sd) some dir.objects) n
        ≡ object_of (puts (protecting dir sd) ns dir.objects) n
    by_case n (inl is) (inl change) =
        puts_has (protecting dir sd) some dir.objects n some_numbers (in_filter (changes dir sd) ns n is change)
        ∙ sym (puts_has (protecting dir sd) ns dir.objects n all_numbers is)
    by_case n (inl is) (inr same) =
        puts_other (protecting dir sd) some dir.objects n some_numbers (filtered_out (changes dir sd) ns n same)
        ∙ of-live dir.objects n (live n is) ∙ ap (λ (x : Object). Some x) (sym (unchanged dir sd n same))
        ∙ sym (puts_has (protecting dir sd) ns dir.objects n all_numbers is)
    by_case n (inr none) either =
        puts_other (protecting dir sd) some dir.objects n some_numbers
        (false_from_ne_true (has some n) (λ is. both_ways (has ns n) none (has_filter (changes dir sd) ns n is)))
        ∙ sym (puts_other (protecting dir sd) ns dir.objects n all_numbers none)

-- ---- the edits

queue_last : (pending : List Pending) (dir : Directory) → all_edited (put_queue pending ∷ []) dir
    ≡ with_pending pending dir
unfolding all_edited edited
queue_last pending dir = refl

pub protect_edited : (dir : Directory) (sd : Sd) (ns : List ℕ) → Rise dir.objects → AreApart ns
    → ((n : ℕ) → has ns n ≡ true → is_live dir.objects n ≡ true)
    → all_edited (protect_edits dir sd ns) dir ≡ all_protected sd ns dir
protect_edited dir sd ns rise apart live =
    edited_append (map (λ n. put_object (protecting dir sd n)) (filter (changes dir sd) ns)) (put_queue marks ∷ []) dir
    ∙ ap (all_edited (put_queue marks ∷ [])) (puts_edited (protecting dir sd) (filter (changes dir sd) ns) dir)
    ∙ queue_last marks (with_objects (puts (protecting dir sd) (filter (changes dir sd) ns) dir.objects) dir)
    ∙ ap (λ (os : List Object). with_those dir os marks) (only_changed dir sd ns rise live)
    ∙ sym (run_is dir sd ns dir.objects dir.pending apart (all_by (λ (n : ℕ). is_live dir.objects n ≡ true) ns live)
    (λ n is. refl))
  where
    marks : List Pending
    marks = all_marked dir sd ns dir.pending

apart_protected : (dir : Directory) → Rise dir.objects → AreApart (protected dir)
unfolding protected
apart_protected dir rise = apart_where (λ (o : Object). has (spread dir) o.number || is_protected_alone dir
    (sid_in dir.schema o)) 0 dir.objects rise

each_of : (P : ℕ → Type 0) (ns : List ℕ) → AllByRecursion P ns → (n : ℕ) → has ns n ≡ true → P n
each_of P [] all n is = absurd (false≢true is)
each_of P (k ∷ ks) all n is =
    elim (or_cases (nat_eq k n) (has ks n) is) [
      | inl here ↦ subst P (eqb-true k n here) all.0
      | inr behind ↦ each_of P ks all.1 n behind
    ]

holder_edited : (dir : Directory) (holder : Option ℕ) → Rise dir.objects → all_edited (holder_edits dir holder) dir
    ≡ (run_from dir holder).directory
unfolding all_edited
holder_edited dir None rise = refl
holder_edited dir (Some h) rise =
    protect_edited dir (frozen (sd_at dir.objects h)) (protected dir) rise (apart_protected dir rise)
    (each_of (λ (n : ℕ). is_live dir.objects n ≡ true) (protected dir) (protected_live dir rise))

pub run_edited : (dir : Directory) → Rise dir.objects → all_edited (run_edits dir) dir ≡ (protection_run dir).directory
unfolding protection_run
run_edited dir rise = holder_edited dir (admin_sd_holder dir) rise
