-- A second protection run at once changes nothing.
use Rattle.std.proofs.Common.{◌≡◌, ℕ, zero, suc, ◌+◌, ◌<◌, ◌≤◌, Bool, true, false, not, List, [], ◌∷◌, length, Option}
use Rattle.std.proofs.Common.{Some, None, ◌⊎◌, inl, inr, refl, sym, subst, ap, arith, ◌∙◌}
use Rattle.std.specs.Prelude.{nat_eq, nat_lt, if◌then◌else◌, filter, ◌&&◌}
use Rattle.std.specs.List.{AllByRecursion, list_any}
use Rattle.std.proofs.lemmas.Bool.{eqb-true, eqb-false, ne_eqb, eq-eqb, ltb-true, cases_Bool, or_left, or_right}
use Rattle.std.proofs.lemmas.Bool.{false_from_ne_true}
use Rattle.std.proofs.lemmas.Option.{none-some, same_Some}
use Rattle.ad_sd.specs.declared.parts.Sd.{Sd}
use Rattle.ad_schema.specs.declared.line.SchemaRecord.{SchemaRecord}
use Rattle.prop_queue.specs.declared.pending.Pending.{Pending}
use Rattle.prop_queue.specs.Pending.{marked}
use Rattle.ad_dir_model.specs.Object.{Object}
use Rattle.ad_dir_model.specs.Objects.{RiseAbove, Rise, object_of, is_live, object_at, sd_at, put}
use Rattle.ad_dir_model.specs.Directory.{Meta, Directory}
use Rattle.ad_dir_model.specs.SameSd.{same_sd}
use Rattle.ad_dir_model.specs.Inheritance.{marked_if_changed, stored}
use Rattle.ad_dir_model.specs.Names.{admin_sd_holder}
use Rattle.ad_dir_model.specs.Protection.{frozen, has, admin_count, has_mark, with_mark, protected_object}
use Rattle.ad_dir_model.specs.Protection.{all_protected, protected, changes, Run, run_from, protection_run}
use Rattle.ad_dir_model.specs.Protection.{IsProtected}
use Rattle.ad_dir_model.specs.Soundness.{IsSound}
use Rattle.ad_dir_model.proofs.Finding.{of_number, of-live, at_number, live-of, of_above, rise_put, live_above}
use Rattle.ad_dir_model.proofs.SameSdLaws.{same_sd-refl}
use Rattle.ad_dir_model.proofs.LeastSet.{protected_is, is_protected}
use Rattle.ad_dir_model.proofs.Marking.{values_marked, number_kept, parent_kept, class_kept, name_kept}
use Rattle.ad_dir_model.proofs.Marking.{rule_values_marked}
use Rattle.ad_dir_model.proofs.Freezing.{frozen_is, frozen_twice}
use Rattle.ad_dir_model.proofs.Running.{putting, putting_number, all_live_stored, IsDone, all_done, all_others}
use Rattle.ad_dir_model.proofs.Running.{all_sound, protected_live}
use Rattle.ad_dir_model.proofs.Alike.{IsAlike, Alike, all_alike, alike_put, with_those, holder_alike, protected_alike}

-- ---- the run leaves schema and counters, and objects that are alike

schema_all : (sd : Sd) (ns : List ℕ) (dir : Directory) → (all_protected sd ns dir).schema ≡ dir.schema
unfolding all_protected stored
schema_all sd [] dir = refl
schema_all sd (n ∷ ns) dir = schema_all sd ns (stored dir (putting dir sd n))

meta_all : (sd : Sd) (ns : List ℕ) (dir : Directory) → (all_protected sd ns dir).meta ≡ dir.meta
unfolding all_protected stored
meta_all sd [] dir = refl
meta_all sd (n ∷ ns) dir = meta_all sd ns (stored dir (putting dir sd n))

make : List SchemaRecord → List Object → List Pending → Meta → Directory
make schema objects pending meta = record { schema = schema; objects = objects; pending = pending; meta = meta }

only_these : (dir after : Directory) → after.schema ≡ dir.schema → after.meta ≡ dir.meta → after
    ≡ with_those dir after.objects after.pending
unfolding make
only_these dir after schema meta =
    ap (λ (s : List SchemaRecord). make s after.objects after.pending after.meta) schema
    ∙ ap (make dir.schema after.objects after.pending) meta

putting_alike : (dir : Directory) (sd : Sd) (n : ℕ) → IsAlike dir.schema (object_at dir.objects n) (putting dir sd n)
putting_alike dir sd n = record {
  number = number_kept dir sd (object_at dir.objects n);
  parent = parent_kept dir sd (object_at dir.objects n);
  class = class_kept dir sd (object_at dir.objects n);
  name = name_kept dir sd (object_at dir.objects n);
  values = λ which place at. rule_values_marked dir.schema which place (object_at dir.objects n).values
      (putting dir sd n).values (values_marked dir sd (object_at dir.objects n)) at;
}

run_alike : (sd : Sd) (ns : List ℕ) (dir : Directory) (xs : List Object) → Rise dir.objects
    → AllByRecursion (λ (n : ℕ). is_live dir.objects n ≡ true) ns → Alike dir.schema xs dir.objects
    → Alike dir.schema xs (all_protected sd ns dir).objects
unfolding all_protected stored
run_alike sd [] dir xs rise all alike = alike
run_alike sd (n ∷ ns) dir xs rise all alike =
    let number : (putting dir sd n).number ≡ n = putting_number dir sd n all.0 in
    let above : 0 < (putting dir sd n).number = rw number (live_above 0 dir.objects n rise all.0) in
    run_alike sd ns (stored dir (putting dir sd n)) xs
    (rise_put 0 (putting dir sd n) dir.objects rise above)
    (all_live_stored dir (putting dir sd n) ns all.1)
    (alike_put dir.schema 0 xs dir.objects (putting dir sd n) (object_at dir.objects n) rise alike
    (subst (λ (k : ℕ). object_of dir.objects k ≡ Some (object_at dir.objects n)) (sym number)
    (of-live dir.objects n all.0)) (putting_alike dir sd n))

all_live_all : (sd : Sd) (ns ms : List ℕ) (dir : Directory) → AllByRecursion (λ (n : ℕ). is_live dir.objects n ≡ true)
    ns → AllByRecursion (λ (n : ℕ). is_live dir.objects n ≡ true) ms
    → AllByRecursion (λ (n : ℕ). is_live (all_protected sd ns dir).objects n ≡ true) ms
unfolding all_protected
all_live_all sd [] ms dir live all = all
all_live_all sd (n ∷ ns) ms dir live all = all_live_all sd ns ms (stored dir (putting dir sd n))
    (all_live_stored dir (putting dir sd n) ns live.1) (all_live_stored dir (putting dir sd n) ms all)

-- ---- what is done already

put_same : (m : ℕ) (o : Object) (os : List Object) → RiseAbove m os → object_of os o.number ≡ Some o → put o os ≡ os
unfolding put object_of
put_same m o [] rise is = absurd (none-some o is)
put_same m o (x ∷ xs) rise is =
    elim (cases_Bool (nat_eq x.number o.number)) [
      | inl same ↦ rw same (ap (λ (y : Object). y ∷ xs) (sym (same_Some x o (rw same at is))))
      | inr differ ↦ elim (cases_Bool (nat_lt o.number x.number)) [
        | inl less ↦
            let below : o.number < x.number = ltb-true o.number x.number less in
            let above : x.number < o.number = of_above x.number xs o.number o rise.1 (rw differ at is) in
            absurd (omega arith)
        | inr more ↦ rw (differ, more) (ap (λ (ys : List Object). x ∷ ys)
            (put_same x.number o xs rise.1 (rw differ at is)))
      ]
    ]

with_sd : Object → Sd → Object
with_sd o sd = record o { sd = sd }

pub putting_same : (dir : Directory) (sd : Sd) (n : ℕ) → IsDone sd dir n → putting dir sd n ≡ object_at dir.objects n
unfolding protected_object with_sd
putting_same dir sd n done =
    ap (λ (b : Bool). with_sd (if b then object_at dir.objects n else with_mark (admin_count dir.schema)
    (object_at dir.objects n)) sd) done.marked
    ∙ ap (with_sd (object_at dir.objects n)) (sym done.sd_is)

stored_same_object : (dir : Directory) (n : ℕ) → Rise dir.objects → is_live dir.objects n ≡ true
    → stored dir (object_at dir.objects n) ≡ dir
unfolding stored marked_if_changed make
stored_same_object dir n rise live =
    let number : (object_at dir.objects n).number ≡ n = at_number dir.objects n live in
    let itself : object_of dir.objects (object_at dir.objects n).number ≡ Some (object_at dir.objects n)
    = subst (λ (k : ℕ). object_of dir.objects k ≡ Some (object_at dir.objects n)) (sym number)
    (of-live dir.objects n live) in
    let same : same_sd (sd_at dir.objects (object_at dir.objects n).number) (object_at dir.objects n).sd ≡ true
    = ap (λ (k : ℕ). same_sd (sd_at dir.objects k) (object_at dir.objects n).sd) number
    ∙ same_sd-refl (object_at dir.objects n).sd in
    ap (λ (b : Bool). make dir.schema (put (object_at dir.objects n) dir.objects)
    (if b then dir.pending else marked (object_at dir.objects n).number dir.pending) dir.meta) same
    ∙ ap (λ (os : List Object). make dir.schema os dir.pending dir.meta)
    (put_same 0 (object_at dir.objects n) dir.objects rise itself)

nothing_changes : (sd : Sd) (ns : List ℕ) (dir : Directory) → Rise dir.objects
    → AllByRecursion (λ (n : ℕ). is_live dir.objects n ≡ true) ns → AllByRecursion (IsDone sd dir) ns
    → all_protected sd ns dir ≡ dir
unfolding all_protected
nothing_changes sd [] dir rise live done = refl
nothing_changes sd (n ∷ ns) dir rise live done =
    ap (all_protected sd ns) (ap (stored dir) (putting_same dir sd n done.0) ∙ stored_same_object dir n rise live.0)
    ∙ nothing_changes sd ns dir rise live.1 done.1

none_counted : (sd : Sd) (ns : List ℕ) (dir : Directory) → AllByRecursion (IsDone sd dir) ns
    → length (filter (changes dir sd) ns) ≡ 0
none_counted sd [] dir done = refl
none_counted sd (n ∷ ns) dir done =
    let same : same_sd (sd_at dir.objects n) sd ≡ true = ap (λ (own : Sd). same_sd own sd) done.0.sd_is
    ∙ same_sd-refl sd in
    rw (same, done.0.marked) (none_counted sd ns dir done.1)

-- ---- the second run

all_by : (P : ℕ → Type 0) (set : List ℕ) → ((n : ℕ) → has set n ≡ true → P n) → AllByRecursion P set
all_by P [] each = tt
all_by P (n ∷ ns) each = (
  each n (or_left (nat_eq n n) (has ns n) (eq-eqb n n refl)),
  all_by P ns
      (λ m is. each m (or_right (nat_eq n m) (has ns m) is)),
)

make_run : Directory → ℕ → ℕ → Run
make_run directory changed protected = record { directory = directory; changed = changed; protected = protected }

run_some : (dir : Directory) (holder : ℕ) → IsSound dir → admin_sd_holder dir ≡ Some holder
    → protection_run (run_from dir (Some holder)).directory ≡ make_run (run_from dir (Some holder)).directory 0
    (run_from dir (Some holder)).protected
unfolding protection_run make_run
run_some dir holder sound is =
    ap (run_from once) same_holder
    ∙ ap (λ (own : Sd). make_run (all_protected own (protected once) once)
    (length (filter (changes once own) (protected once))) (length (protected once))) same_sd_again
    ∙ ap (λ (set : List ℕ). make_run (all_protected sd set once) (length (filter (changes once sd) set)) (length set))
    same_set
    ∙ ap (λ (d : Directory). make_run d (length (filter (changes once sd) set)) (length set))
    (nothing_changes sd set once rise_once live_once done)
    ∙ ap (λ (k : ℕ). make_run once k (length set)) (none_counted sd set once done)
  where
    sd : Sd
    sd = frozen (sd_at dir.objects holder)

    set : List ℕ
    set = protected dir

    once : Directory
    once = all_protected sd set dir

    live : AllByRecursion (λ (n : ℕ). is_live dir.objects n ≡ true) set
    live = protected_live dir sound.rise

    alike : Alike dir.schema dir.objects once.objects
    alike = run_alike sd set dir dir.objects sound.rise live (all_alike dir.schema dir.objects)

    shape : once ≡ with_those dir once.objects once.pending
    shape = only_these dir once (schema_all sd set dir) (meta_all sd set dir)

    same_holder : admin_sd_holder once ≡ Some holder
    same_holder = ap admin_sd_holder shape ∙ holder_alike dir once.objects once.pending alike ∙ is

    same_set : protected once ≡ set
    same_set = ap protected shape ∙ protected_alike dir once.objects once.pending alike

    done : AllByRecursion (IsDone sd once) set
    done = all_by (IsDone sd once) set (λ n in_set. all_done sd set dir n live in_set)

    same_sd_again : frozen (sd_at once.objects holder) ≡ sd
    same_sd_again =
        elim (cases_Bool (has set holder)) [
          | inl in_set ↦ ap frozen (all_done sd set dir holder live in_set).sd_is
              ∙ frozen_twice (sd_at dir.objects holder)
          | inr outside ↦ ap (λ (x : Object). frozen x.sd) (all_others sd set dir holder live outside)
        ]

    sound_once : IsSound once
    sound_once = all_sound sd set dir sound (frozen_is (sd_at dir.objects holder)) live

    rise_once : Rise once.objects
    rise_once = sound_once.rise

    live_once : AllByRecursion (λ (n : ℕ). is_live once.objects n ≡ true) set
    live_once = all_live_all sd set set dir live live

run_none : (dir : Directory) → admin_sd_holder dir ≡ None → protection_run (run_from dir None).directory
    ≡ make_run (run_from dir None).directory 0 (run_from dir None).protected
unfolding protection_run make_run
run_none dir is = ap (run_from dir) is

by_holder : (dir : Directory) (holder : Option ℕ) → IsSound dir → admin_sd_holder dir ≡ holder
    → protection_run (run_from dir holder).directory ≡ make_run (run_from dir holder).directory 0
    (run_from dir holder).protected
by_holder dir None sound is = run_none dir is
by_holder dir (Some holder) sound is = run_some dir holder sound is

pub second_run : (dir : Directory) → IsSound dir → protection_run (protection_run dir).directory
    ≡ record { directory = (protection_run dir).directory; changed = 0; protected = (protection_run dir).protected }
unfolding protection_run make_run
second_run dir sound = by_holder dir (admin_sd_holder dir) sound refl

-- ---- the first

run_done_by : (dir : Directory) (holder : Option ℕ) (h number : ℕ) → IsSound dir → holder ≡ Some h
    → has (protected dir) number ≡ true → IsDone (frozen (sd_at dir.objects h)) (run_from dir holder).directory number
run_done_by dir None h number sound is in_set = absurd (none-some h is)
run_done_by dir (Some k) h number sound is in_set =
    subst (λ (n : ℕ). IsDone (frozen (sd_at dir.objects n)) (run_from dir (Some k)).directory number) (same_Some k h is)
    (all_done (frozen (sd_at dir.objects k)) (protected dir) dir number (protected_live dir sound.rise) in_set)

pub run_done : (dir : Directory) (holder number : ℕ) → IsSound dir → admin_sd_holder dir ≡ Some holder
    → IsProtected dir number → IsDone (frozen (sd_at dir.objects holder)) (protection_run dir).directory number
unfolding protection_run
run_done dir holder number sound is in_set = run_done_by dir (admin_sd_holder dir) holder number sound is
    (is_protected dir number sound.rise in_set)

run_leaves_by : (dir : Directory) (holder : Option ℕ) (number : ℕ) → IsSound dir → has (protected dir) number ≡ false
    → object_at (run_from dir holder).directory.objects number ≡ object_at dir.objects number
run_leaves_by dir None number sound outside = refl
run_leaves_by dir (Some k) number sound outside = all_others (frozen (sd_at dir.objects k)) (protected dir) dir number
    (protected_live dir sound.rise) outside

pub run_leaves : (dir : Directory) (number : ℕ) → IsSound dir → (IsProtected dir number → ⊥)
    → object_at (protection_run dir).directory.objects number ≡ object_at dir.objects number
unfolding protection_run
run_leaves dir number sound not_protected =
    run_leaves_by dir (admin_sd_holder dir) number sound
    (false_from_ne_true (has (protected dir) number)
    (λ in_set. not_protected (protected_is dir number sound.rise in_set)))

pub run_nothing : (dir : Directory) → admin_sd_holder dir ≡ None → protection_run dir
    ≡ record { directory = dir; changed = 0; protected = 0 }
unfolding protection_run
run_nothing dir none = ap (run_from dir) none
