-- Edits that are needed: what changes nothing has none.
use Rattle.std.proofs.Common.{◌≡◌, ◌↔◌, ℕ, ◌+◌, Bool, true, false, IsTrue, Result, Ok, Err, List, [], map, Option}
use Rattle.std.proofs.Common.{Some, None, inl, inr, sym, subst, ap, arith, ◌∙◌}
use Rattle.std.specs.Prelude.{nat_eq, if◌then◌else◌, is_some, IfOk}
use Rattle.std.specs.List.{AllByRecursion}
use Rattle.std.proofs.lemmas.Bool.{cases_Bool, eqb-true, eqb-false, both_ways, false≢true}
use Rattle.ad_ids.specs.SidValue.{SidValue}
use Rattle.prop_queue.specs.declared.pending.Pending.{Pending}
use Rattle.prop_queue.specs.Pending.{marked}
use Rattle.ad_schema.specs.declared.line.SchemaRecord.{SchemaRecord}
use Rattle.ad_dir_objects.specs.declared.edit.Edit.{Edit as EditIn}
use Rattle.ad_dir_objects.specs.Seen.{edit_seen}
use Rattle.ad_dir.specs.Conditions.{HasNormal, AreEdits}
use Rattle.ad_dir.specs.Applying.{MayApplyAll}
use Rattle.ad_dir.proofs.AllMay.{MayAll, may_all}
use Rattle.ad_dir_model.specs.Object.{Object}
use Rattle.ad_dir_model.specs.Objects.{Rise, object_of, is_live, object_at, sd_at, put}
use Rattle.ad_dir_model.specs.Directory.{Meta, Directory, Edit, with_objects, edited, all_edited}
use Rattle.ad_dir_model.specs.Changes.{counted_on, new_sid, added, goes_with, deleted}
use Rattle.ad_dir_model.specs.Edits.{change_edits, write_edits}
use Rattle.ad_dir_model.specs.Inheritance.{marked_if_changed, settled}
use Rattle.ad_dir_model.specs.SameSd.{same_sd}
use Rattle.ad_dir_model.proofs.Finding.{of-live, live_above, rise_put, of-put_same, of-put_other, at-put_same}
use Rattle.ad_dir_model.proofs.Extent.{same_objects}
use Rattle.ad_dir_model.proofs.Deleting.{of-gone}
use Rattle.ad_dir_model.proofs.SameSdLaws.{same_sd-refl}
use Rattle.ad_change.specs.Judging.{AreNeeded}
use Rattle.ad_change.proofs.SubtreeLaws.{itself_goes}

-- ---- an object that is put as it stands there

put_found : (o : Object) (os : List Object) → Rise os → is_live os o.number ≡ true → o ≡ object_at os o.number
    → (n : ℕ) → object_of (put o os) n ≡ object_of os n
put_found o os rise live same n =
    elim (cases_Bool (nat_eq o.number n)) [
      | inl here ↦ subst (λ (k : ℕ). object_of (put o os) k ≡ object_of os k) (eqb-true o.number n here)
          (of-put_same o os ∙ ap (λ (x : Object). Some x) same ∙ sym (of-live os o.number live))
      | inr apart ↦ of-put_other o os n (eqb-false o.number n apart)
    ]

put_same : (o : Object) (os : List Object) → Rise os → is_live os o.number ≡ true → o ≡ object_at os o.number
    → put o os ≡ os
put_same o os rise live same =
    same_objects 0 (put o os) os (rise_put 0 o os rise (live_above 0 os o.number rise live)) rise
    (put_found o os rise live same)

pub change_nothing : (dir : Directory) (o : Object) → Rise dir.objects → is_live dir.objects o.number ≡ true → o
    ≡ object_at dir.objects o.number
    → all_edited (change_edits o) dir ≡ dir
unfolding all_edited edited
change_nothing dir o rise live same = ap (λ (os : List Object). with_objects os dir)
    (put_same o dir.objects rise live same)

pub change_only : (dir : Directory) (o : Object) → all_edited (change_edits o) dir ≡ dir → o
    ≡ object_at dir.objects o.number
unfolding all_edited edited
change_only dir o same = sym (at-put_same o dir.objects) ∙ ap (λ (d : Directory). object_at d.objects o.number) same

-- ---- one that is written as it stands there

make : List SchemaRecord → List Object → List Pending → Meta → Directory
make schema objects pending meta = record { schema = schema; objects = objects; pending = pending; meta = meta }

write_settled : (dir : Directory) (o : Object) → Rise dir.objects → is_live dir.objects o.number ≡ true → o
    ≡ object_at dir.objects o.number
    → make dir.schema (put o dir.objects) (marked_if_changed (sd_at dir.objects o.number) o dir.pending) dir.meta ≡ dir
unfolding make marked_if_changed
write_settled dir o rise live same =
    let unmarked : same_sd (sd_at dir.objects o.number) o.sd ≡ true
    = ap (λ (x : Object). same_sd x.sd o.sd) (sym same) ∙ same_sd-refl o.sd in
    ap (λ (b : Bool). make dir.schema (put o dir.objects) (if b then dir.pending else marked o.number dir.pending)
    dir.meta) unmarked
    ∙ ap (λ (os : List Object). make dir.schema os dir.pending dir.meta) (put_same o dir.objects rise live same)

pub write_nothing : (dir : Directory) (o : Object) → Rise dir.objects → is_live dir.objects o.number ≡ true
    → settled dir o ≡ object_at dir.objects o.number
    → all_edited (write_edits dir o) dir ≡ dir
unfolding all_edited edited make
write_nothing dir o rise live same = write_settled dir (settled dir o) rise live same

pub write_only : (dir : Directory) (o : Object) → all_edited (write_edits dir o) dir ≡ dir → settled dir o
    ≡ object_at dir.objects o.number
unfolding all_edited edited
write_only dir o same = sym (at-put_same (settled dir o) dir.objects)
    ∙ ap (λ (d : Directory). object_at d.objects o.number) same

-- ---- edits that are needed

pub none_needed : (dir : Directory) (seen : List Edit) (edits : List EditIn) → edits ≡ [] → all_edited seen dir ≡ dir
    → AreNeeded dir seen edits
unfolding all_edited
none_needed dir seen edits none same = record {
  either = inr none;
  make = ap (λ (es : List EditIn). all_edited (map edit_seen es) dir) none ∙ sym same;
  nothing = λ e. none;
  normal = subst (AllByRecursion HasNormal) (sym none) tt;
}

pub all_needed : (dir : Directory) (seen : List Edit) (edits : List EditIn) → AreEdits seen edits
    → (all_edited seen dir ≡ dir → ⊥) → AreNeeded dir seen edits
all_needed dir seen edits are differs = record {
  either = inl are.are;
  make = ap (λ (es : List Edit). all_edited es dir) are.are;
  nothing = λ same. absurd (differs same);
  normal = are.normal;
}

pub needed_may : (dir : Directory) (seen : List Edit) (edits : List EditIn) → AreNeeded dir seen edits
    → MayAll dir seen → MayApplyAll dir edits
needed_may dir seen edits needed may =
    elim needed.either [
      | inl are ↦ may_all dir edits needed.normal (subst (MayAll dir) (sym are) may)
      | inr none ↦ subst (MayApplyAll dir) (sym none) tt
    ]

-- ---- as the code has them

pub put_stood : (dir : Directory) (o : Object) (stood : Bool) (edits : List EditIn) → Rise dir.objects
    → is_live dir.objects o.number ≡ true
    → (IsTrue stood ↔ (o ≡ object_at dir.objects o.number)) → stood ≡ true → edits ≡ []
    → AreNeeded dir (change_edits o) edits
put_stood dir o stood edits rise live same is none = none_needed dir (change_edits o) edits none
    (change_nothing dir o rise live (same.0 is))

pub put_needed : {E : Type 0} (dir : Directory) (o : Object) (stood : Bool) (made : Result (List EditIn) E)
    → (IsTrue stood ↔ (o ≡ object_at dir.objects o.number))
    → stood ≡ false → IfOk made (AreEdits (change_edits o)) → IfOk made (AreNeeded dir (change_edits o))
put_needed dir o stood (Ok edits) same is are =
    all_needed dir (change_edits o) edits are (λ e. both_ways stood is (same.1 (change_only dir o e)))
put_needed dir o stood (Err e) same is are = tt

pub write_stood : (dir : Directory) (o : Object) (stood : Bool) (edits : List EditIn) → Rise dir.objects
    → is_live dir.objects o.number ≡ true
    → (IsTrue stood ↔ (settled dir o ≡ object_at dir.objects o.number)) → stood ≡ true → edits ≡ []
    → AreNeeded dir (write_edits dir o) edits
write_stood dir o stood edits rise live same is none = none_needed dir (write_edits dir o) edits none
    (write_nothing dir o rise live (same.0 is))

pub write_needed : {E : Type 0} (dir : Directory) (o : Object) (stood : Bool) (made : Result (List EditIn) E)
    → (IsTrue stood ↔ (settled dir o ≡ object_at dir.objects o.number))
    → stood ≡ false → IfOk made (AreEdits (write_edits dir o)) → IfOk made (AreNeeded dir (write_edits dir o))
write_needed dir o stood (Ok edits) same is are =
    all_needed dir (write_edits dir o) edits are (λ e. both_ways stood is (same.1 (write_only dir o e)))
write_needed dir o stood (Err e) same is are = tt

-- ---- what is something at any time

counted_differs : (meta : Meta) (sid : Option SidValue) → counted_on meta sid ≡ meta → ⊥
counted_differs meta None same = let e : meta.next_number + 1 ≡ meta.next_number = ap (λ (m : Meta). m.next_number)
    same in omega (arith, e)
counted_differs meta (Some sid) same = let e : meta.next_number + 1 ≡ meta.next_number
    = ap (λ (m : Meta). m.next_number) same in omega (arith, e)

-- an addition counts
pub added_differs : (dir : Directory) (o : Object) → added dir o ≡ dir → ⊥
unfolding added
added_differs dir o same = counted_differs dir.meta (new_sid dir o.class) (ap (λ (d : Directory). d.meta) same)

-- what is deleted was there
pub deleted_differs : (dir : Directory) (target : ℕ) → is_live dir.objects target ≡ true → deleted dir target ≡ dir → ⊥
unfolding deleted
deleted_differs dir target live same =
    false≢true (sym (ap is_some (of-gone (goes_with dir target) dir.objects target (itself_goes dir target)))
    ∙ ap (λ (d : Directory). is_live d.objects target) same ∙ live)
