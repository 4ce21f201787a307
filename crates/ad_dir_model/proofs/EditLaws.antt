-- The edits of each change make what it is defined to make.
use Rattle.std.proofs.Common.{◌≡◌, ℕ, zero, suc, ◌<◌, ◌≤◌, Bool, true, false, not, cond, List, [], ◌∷◌, ◌++◌, map}
use Rattle.std.proofs.Common.{Option, Some, None, ◌⊎◌, inl, inr, refl, sym, subst, ap, arith, ◌∙◌}
use Rattle.std.specs.Prelude.{nat_eq, if◌then◌else◌, filter, is_some, ◌&&◌, ◌||◌}
use Rattle.std.specs.List.{AllByRecursion, list_any}
use Rattle.std.specs.Option.{option_map}
use Rattle.std.proofs.lemmas.Bool.{eqb-true, eqb-false, ne_eqb, eq-eqb, cases_Bool, false≢true, both_ways, or_cases}
use Rattle.std.proofs.lemmas.Bool.{or_left, or_right, or_parts, or_from, and_parts, false_from_ne_true, not-false}
use Rattle.std.proofs.lemmas.Bool.{not-true}
use Rattle.std.proofs.lemmas.Option.{none-some, same_Some}
use Rattle.ad_sd.specs.declared.parts.Sd.{Sd}
use Rattle.ad_schema.specs.declared.line.SchemaRecord.{SchemaRecord}
use Rattle.prop_queue.specs.declared.pending.Pending.{Pending}
use Rattle.prop_queue.specs.Pending.{advanced}
use Rattle.ad_dir_model.specs.Object.{Object}
use Rattle.ad_dir_model.specs.Objects.{Rise, has_number, object_of, is_live, object_at, sd_at, put, removed, next_child}
use Rattle.ad_dir_model.specs.Directory.{Meta, Directory, Edit, put_object, remove_object, put_queue, put_meta}
use Rattle.ad_dir_model.specs.Directory.{with_objects, with_pending, edited, all_edited}
use Rattle.ad_dir_model.specs.Inheritance.{marked_if_changed, stored, settled, written}
use Rattle.ad_dir_model.specs.Steps.{child_stepped, head_stepped, stepped, step}
use Rattle.ad_dir_model.specs.Changes.{changed, renamed_object, renamed_by, renamed, numbered, new_sid, counted_on}
use Rattle.ad_dir_model.specs.Changes.{added, unlinked, remaining, goes_with, deleted}
use Rattle.ad_dir_model.specs.Edits.{change_edits, store_edits, write_edits, rename_edits, add_edits, head_edits}
use Rattle.ad_dir_model.specs.Edits.{pending_edits, step_edits, delete_edits}
use Rattle.ad_dir_model.specs.Protection.{has}
use Rattle.ad_dir_model.specs.Conditions.{AreOfDeletion}
use Rattle.ad_dir_model.proofs.Finding.{of-live, at_number, live-of, live_above, rise_put, rise_filter, of-put_same}
use Rattle.ad_dir_model.proofs.Finding.{of-put_other, of-removed_same, of-removed_other}
use Rattle.ad_dir_model.proofs.Deleting.{of-gone, of-stays, rise_remaining}
use Rattle.ad_dir_model.proofs.Extent.{same_objects}

-- ---- changes of one object

pub changed_edited : (dir : Directory) (o : Object) → all_edited (change_edits o) dir ≡ changed dir o
unfolding all_edited edited changed
changed_edited dir o = refl

pub stored_edited : (dir : Directory) (o : Object) → all_edited (store_edits dir o) dir ≡ stored dir o
unfolding all_edited edited stored
stored_edited dir o = refl

pub written_edited : (dir : Directory) (o : Object) → all_edited (write_edits dir o) dir ≡ written dir o
unfolding written
written_edited dir o = stored_edited dir (settled dir o)

pub renamed_edited : (dir : Directory) (number parent : ℕ) (name : List ℕ)
    → all_edited (rename_edits dir number parent name) dir ≡ renamed dir number parent name
unfolding renamed
renamed_edited dir number parent name = by_place (nat_eq (object_at dir.objects number).parent parent)
  where
    o : Object
    o = renamed_object (object_at dir.objects number) parent name

    by_place : (in_place : Bool) → all_edited (if in_place then change_edits o else write_edits dir o) dir
        ≡ renamed_by in_place dir o
    by_place true = changed_edited dir o
    by_place false = written_edited dir o

pub added_edited : (dir : Directory) (o : Object) → all_edited (add_edits dir o) dir ≡ added dir o
unfolding all_edited edited added
added_edited dir o = refl

-- ---- a step

child_edited : (dir : Directory) (child : ℕ)
    → all_edited (write_edits (with_pending (advanced child dir.pending) dir) (object_at dir.objects child)) dir
    ≡ child_stepped dir child
unfolding all_edited edited written stored
child_edited dir child = refl

head_edited : (dir : Directory) (others : List Pending) (found : Option ℕ) → all_edited (head_edits dir others found)
    dir ≡ head_stepped dir others found
unfolding all_edited edited
head_edited dir others None = refl
head_edited dir others (Some child) = child_edited dir child

pending_edited : (dir : Directory) (pending : List Pending) → all_edited (pending_edits dir pending) dir
    ≡ stepped dir pending
unfolding all_edited
pending_edited dir [] = refl
pending_edited dir (head ∷ others) = head_edited dir others (next_child dir.objects head.parent head.cursor)

pub step_edited : (dir : Directory) → all_edited (step_edits dir) dir ≡ step dir
unfolding step
step_edited dir = pending_edited dir dir.pending

-- ---- many puts and many removals

pub edited_append : (first second : List Edit) (dir : Directory) → all_edited (first ++ second) dir
    ≡ all_edited second (all_edited first dir)
unfolding all_edited
edited_append [] second dir = refl
edited_append (e ∷ es) second dir = edited_append es second (edited e dir)

unfoldable pub puts : (ℕ → Object) → List ℕ → List Object → List Object
puts f [] os = os
puts f (n ∷ ns) os = puts f ns (put (f n) os)

unfoldable pub removals : List ℕ → List Object → List Object
removals [] os = os
removals (n ∷ ns) os = removals ns (removed n os)

pub puts_edited : (f : ℕ → Object) (ns : List ℕ) (dir : Directory) → all_edited (map (λ n. put_object (f n)) ns) dir
    ≡ with_objects (puts f ns dir.objects) dir
unfolding all_edited edited puts
puts_edited f [] dir = refl
puts_edited f (n ∷ ns) dir = puts_edited f ns (with_objects (put (f n) dir.objects) dir)

removals_edited : (ns : List ℕ) (dir : Directory) → all_edited (map (λ n. remove_object n) ns) dir
    ≡ with_objects (removals ns dir.objects) dir
unfolding all_edited edited removals
removals_edited [] dir = refl
removals_edited (n ∷ ns) dir = removals_edited ns (with_objects (removed n dir.objects) dir)

pub puts_other : (f : ℕ → Object) (ns : List ℕ) (os : List Object) (n : ℕ)
    → AllByRecursion (λ (k : ℕ). (f k).number ≡ k) ns → has ns n ≡ false → object_of (puts f ns os) n ≡ object_of os n
unfolding puts
puts_other f [] os n numbers none = refl
puts_other f (k ∷ ks) os n numbers none =
    let parts = or_parts (nat_eq k n) (has ks n) none in
    puts_other f ks (put (f k) os) n numbers.1 parts.1
    ∙ of-put_other (f k) os n (λ (e : (f k).number ≡ n). eqb-false k n parts.0 (sym numbers.0 ∙ e))

pub puts_has : (f : ℕ → Object) (ns : List ℕ) (os : List Object) (n : ℕ)
    → AllByRecursion (λ (k : ℕ). (f k).number ≡ k) ns → has ns n ≡ true → object_of (puts f ns os) n ≡ Some (f n)
unfolding puts
puts_has f [] os n numbers is = absurd (false≢true is)
puts_has f (k ∷ ks) os n numbers is =
    elim (cases_Bool (has ks n)) [
      | inl behind ↦ puts_has f ks (put (f k) os) n numbers.1 behind
      | inr none ↦ elim (or_cases (nat_eq k n) (has ks n) is) [
        | inl here ↦
            let same : k ≡ n = eqb-true k n here in
            puts_other f ks (put (f k) os) n numbers.1 none
            ∙ subst (λ (m : ℕ). object_of (put (f k) os) m ≡ Some (f k)) (numbers.0 ∙ same) (of-put_same (f k) os)
            ∙ ap (λ (m : ℕ). Some (f m)) same
        | inr behind ↦ absurd (both_ways (has ks n) none behind)
      ]
    ]

pub rise_puts : (f : ℕ → Object) (ns : List ℕ) (os : List Object) → Rise os
    → AllByRecursion (λ (k : ℕ). 0 < (f k).number) ns → Rise (puts f ns os)
unfolding puts
rise_puts f [] os rise above = rise
rise_puts f (k ∷ ks) os rise above = rise_puts f ks (put (f k) os) (rise_put 0 (f k) os rise above.0) above.1

removals_has : (ns : List ℕ) (os : List Object) (n : ℕ) → object_of os n ≡ None → object_of (removals ns os) n ≡ None
unfolding removals
removals_has [] os n none = none
removals_has (k ∷ ks) os n none =
    removals_has ks (removed k os) n
    (elim (cases_Bool (nat_eq k n)) [
      | inl same ↦ subst (λ (m : ℕ). object_of (removed k os) m ≡ None) (eqb-true k n same) (of-removed_same k os)
      | inr differ ↦ of-removed_other k os n (eqb-false k n differ) ∙ none
    ])

removals_gone : (ns : List ℕ) (os : List Object) (n : ℕ) → has ns n ≡ true → object_of (removals ns os) n ≡ None
unfolding removals
removals_gone [] os n is = absurd (false≢true is)
removals_gone (k ∷ ks) os n is =
    elim (or_cases (nat_eq k n) (has ks n) is) [
      | inl same ↦ removals_has ks (removed k os) n
          (subst (λ (m : ℕ). object_of (removed k os) m ≡ None) (eqb-true k n same) (of-removed_same k os))
      | inr behind ↦ removals_gone ks (removed k os) n behind
    ]

removals_other : (ns : List ℕ) (os : List Object) (n : ℕ) → has ns n ≡ false → object_of (removals ns os) n
    ≡ object_of os n
unfolding removals
removals_other [] os n none = refl
removals_other (k ∷ ks) os n none =
    let parts = or_parts (nat_eq k n) (has ks n) none in
    removals_other ks (removed k os) n parts.1 ∙ of-removed_other k os n (eqb-false k n parts.0)

rise_removals : (ns : List ℕ) (os : List Object) → Rise os → Rise (removals ns os)
unfolding removals removed
rise_removals [] os rise = rise
rise_removals (k ∷ ks) os rise = rise_removals ks (removed k os)
    (rise_filter (λ (o : Object). not (has_number k o)) 0 os rise)

pub all_by : (P : ℕ → Type 0) (set : List ℕ) → ((n : ℕ) → has set n ≡ true → P n) → AllByRecursion P set
all_by P [] each = tt
all_by P (n ∷ ns) each = (
  each n (or_left (nat_eq n n) (has ns n) (eq-eqb n n refl)),
  all_by P ns
      (λ m is. each m (or_right (nat_eq n m) (has ns m) is)),
)

-- ---- a deletion

-- what is put for an object that loses links
losing_object : Directory → ℕ → ℕ → Object
losing_object dir number n = unlinked (goes_with dir number) (object_at dir.objects n)

losing_numbers : (dir : Directory) (number : ℕ) (losing going : List ℕ) → AreOfDeletion dir number losing going
    → AllByRecursion (λ (k : ℕ). (losing_object dir number k).number ≡ k) losing
unfolding losing_object
losing_numbers dir number losing going are = all_by (λ (k : ℕ). (losing_object dir number k).number ≡ k) losing
    (λ n is. at_number dir.objects n (are.losing_stay n is).0)

losing_above : (dir : Directory) (number : ℕ) (losing going : List ℕ) → Rise dir.objects → AreOfDeletion dir number
    losing going → AllByRecursion (λ (k : ℕ). 0 < (losing_object dir number k).number) losing
unfolding losing_object
losing_above dir number losing going rise are = all_by (λ (k : ℕ). 0 < (losing_object dir number k).number) losing
    (λ n is. let live = (are.losing_stay n is).0 in rw (at_number dir.objects n live)
    (live_above 0 dir.objects n rise live))

not_live_none : (os : List Object) (n : ℕ) → is_live os n ≡ false → object_of os n ≡ None
not_live_none os n not_live = by_found (object_of os n) not_live
  where
    by_found : (found : Option Object) → is_some found ≡ false → found ≡ None
    by_found None is = refl
    by_found (Some x) is = absurd (false≢true (sym is))

deleted_found : (dir : Directory) (number : ℕ) (losing going : List ℕ) → AreOfDeletion dir number losing going → (n : ℕ)
    → object_of (removals going (puts (losing_object dir number) losing dir.objects)) n
    ≡ object_of (remaining (goes_with dir number) dir.objects) n
unfolding losing_object
deleted_found dir number losing going are n =
    elim (cases_Bool (goes_with dir number n)) [
      | inl gone ↦ by_gone gone (cases_Bool (has going n)) ∙ sym (of-gone (goes_with dir number) dir.objects n gone)
      | inr stays ↦
          removals_other going (puts (losing_object dir number) losing dir.objects) n
          (false_from_ne_true (has going n) (λ is. both_ways (goes_with dir number n) stays (are.going_go n is)))
          ∙ by_stays stays (cases_Bool (has losing n)) (cases_Bool (is_live dir.objects n))
          ∙ sym (of-stays (goes_with dir number) dir.objects n stays)
    ]
  where
    numbers : AllByRecursion (λ (k : ℕ). (losing_object dir number k).number ≡ k) losing
    numbers = losing_numbers dir number losing going are

    by_gone : goes_with dir number n ≡ true → (has going n ≡ true) ⊎ (has going n ≡ false)
        → object_of (removals going (puts (losing_object dir number) losing dir.objects)) n ≡ None
    by_gone gone (inl is) = removals_gone going (puts (losing_object dir number) losing dir.objects) n is
    by_gone gone (inr none) =
        let not_losing : has losing n ≡ false = false_from_ne_true (has losing n)
        (λ is. both_ways (goes_with dir number n) (are.losing_stay n is).1 gone) in
        let not_live : is_live dir.objects n ≡ false = false_from_ne_true (is_live dir.objects n)
        (λ live. both_ways (has going n) none (are.all_go n live gone)) in
        removals_has going (puts (losing_object dir number) losing dir.objects) n
        (puts_other (losing_object dir number) losing dir.objects n numbers not_losing ∙ not_live_none dir.objects
        n not_live)

    by_stays : goes_with dir number n ≡ false → (has losing n ≡ true) ⊎ (has losing n ≡ false)
        → (is_live dir.objects n ≡ true) ⊎ (is_live dir.objects n ≡ false)
        → object_of (puts (losing_object dir number) losing dir.objects) n
        ≡ option_map (unlinked (goes_with dir number)) (object_of dir.objects n)
    by_stays stays (inl is) alive =
        puts_has (losing_object dir number) losing dir.objects n numbers is
        ∙ ap (option_map (unlinked (goes_with dir number))) (sym (of-live dir.objects n (are.losing_stay n is).0))
    by_stays stays (inr none) (inl live) =
        puts_other (losing_object dir number) losing dir.objects n numbers none
        ∙ of-live dir.objects n live
        ∙ ap (λ (x : Object). Some x) (sym (are.others_lose_none n live stays none))
        ∙ ap (option_map (unlinked (goes_with dir number))) (sym (of-live dir.objects n live))
    by_stays stays (inr none) (inr not_live) =
        puts_other (losing_object dir number) losing dir.objects n numbers none
        ∙ not_live_none dir.objects n not_live
        ∙ ap (option_map (unlinked (goes_with dir number))) (sym (not_live_none dir.objects n not_live))

queue_taken : (pending : List Pending) (edits : List Edit) (dir : Directory) → all_edited (put_queue pending ∷ edits)
    dir ≡ all_edited edits (with_pending pending dir)
unfolding all_edited edited
queue_taken pending edits dir = refl

make : Directory → List Object → List Pending → Directory
make dir objects pending = record dir { objects = objects; pending = pending }

staying : Directory → ℕ → List Pending
staying dir number = filter (λ entry. not (goes_with dir number entry.parent)) dir.pending

pub deleted_edited : (dir : Directory) (number : ℕ) (losing going : List ℕ) → Rise dir.objects
    → AreOfDeletion dir number losing going → all_edited (delete_edits dir number losing going) dir
    ≡ deleted dir number
unfolding deleted make staying losing_object
deleted_edited dir number losing going rise are =
    queue_first
    ∙ edited_append (map (λ n. put_object (losing_object dir number n)) losing) (map (λ n. remove_object n) going)
    queued
    ∙ ap (all_edited (map (λ n. remove_object n) going)) (puts_edited (losing_object dir number) losing queued)
    ∙ removals_edited going (with_objects (puts (losing_object dir number) losing dir.objects) queued)
    ∙ ap (λ (os : List Object). make dir os (staying dir number))
    (same_objects 0 (removals going (puts (losing_object dir number) losing dir.objects))
    (remaining (goes_with dir number) dir.objects)
    (rise_removals going (puts (losing_object dir number) losing dir.objects)
    (rise_puts (losing_object dir number) losing dir.objects rise
    (losing_above dir number losing going rise are)))
    (rise_remaining (goes_with dir number) dir.objects rise)
    (deleted_found dir number losing going are))
  where
    queued : Directory
    queued = with_pending (staying dir number) dir

    queue_first : all_edited (delete_edits dir number losing going) dir
        ≡ all_edited (map (λ n. put_object (losing_object dir number n)) losing ++ map (λ n. remove_object n) going)
        queued
    queue_first = queue_taken (staying dir number) (map (λ n. put_object (losing_object dir number n)) losing
        ++ map (λ n. remove_object n) going) dir
