-- Writes and moves keep a directory sound.
use Rattle.std.proofs.Common.{◌≡◌, ℕ, ◌≤◌, true, List, Some, inl, inr, sym, subst, ap, ◌∙◌}
use Rattle.std.specs.Prelude.{nat_eq}
use Rattle.std.proofs.lemmas.Bool.{eqb-true, eqb-false, cases_Bool}
use Rattle.ad_sd.specs.declared.parts.Sd.{Sd}
use Rattle.ad_inherit.specs.Whole.{explicit_part, whole}
use Rattle.prop_queue.specs.declared.pending.Pending.{Pending}
use Rattle.prop_queue.specs.Pending.{AreDistinct}
use Rattle.ad_dir_model.specs.Object.{Object, links_in}
use Rattle.ad_dir_model.specs.Objects.{object_of, is_live, object_at, sd_at, put, parent_at}
use Rattle.ad_dir_model.specs.Limits.{max_weight}
use Rattle.ad_dir_model.specs.Tree.{root, IsPlaced}
use Rattle.ad_dir_model.specs.Directory.{Directory, with_objects}
use Rattle.ad_dir_model.specs.Inheritance.{whole_at, IsSettled, covers, guid_at, IsSettledOrCovered}
use Rattle.ad_dir_model.specs.Inheritance.{marked_if_changed, stored, settled, written}
use Rattle.ad_dir_model.specs.Changes.{changed}
use Rattle.ad_dir_model.specs.Weight.{weight}
use Rattle.ad_dir_model.specs.Soundness.{IsBelowRoot, Stands, IsSound}
use Rattle.ad_dir_model.specs.Conditions.{MayReplace, KeepsParent, KeepsDescriptor, MayMove}
use Rattle.ad_dir_model.proofs.Finding.{of_number, of-live, live-of, live-put, rise_put, live_above, of-put_same}
use Rattle.ad_dir_model.proofs.Finding.{at-put_same, at-put_other}
use Rattle.ad_dir_model.proofs.PendingLaws.{AreLive, live_marked_if, distinct_marked_if, live_in_more}
use Rattle.ad_dir_model.proofs.Inheriting.{placed, explicit-explicit, whole_root, whole_below, Inherits, inherits_but}
use Rattle.ad_dir_model.proofs.Inheriting.{keep, settled_is, stored_inherits, written_inherits}
use Rattle.ad_dir_model.proofs.ScratchLaws.{stands_root, stands_below, root_at}
use Rattle.ad_dir_model.proofs.Placing.{all_live_more, put_or_before, each_placed}
use Rattle.ad_dir_model.proofs.Standing.{stands_from_root, stands_from_below, StaysInPlace, each_stands}
use Rattle.ad_dir_model.proofs.Frames.{KeepsFrame, weight_settled, live_before, frame_placed}
use Rattle.ad_dir_model.proofs.StepSound.{inherits_of, not_own_parent, with_sd, sid_with_sd}

-- ---- an object in the place of the one of its number

keeps_frame : (dir : Directory) (o : Object) → MayReplace dir o → KeepsFrame dir o (object_at dir.objects o.number)
keeps_frame dir o may = record { live = of-live dir.objects o.number may.live; sid = may.same_sid; weight = may.weight }

-- The parts of soundness, where each object stands right in the new directory.
pub replaced : (dir : Directory) (o : Object) (pending : List Pending) → IsSound dir → MayReplace dir o
    → ((m : ℕ) (x : Object) → object_of (put o dir.objects) m ≡ Some x → Stands (placed dir o pending) x)
    → AreLive dir.objects pending → AreDistinct pending → IsSound (placed dir o pending)
replaced dir o pending sound may stands live distinct = record {
  rise = rise_put 0 o dir.objects sound.rise (live_above 0 dir.objects o.number sound.rise may.live);
  frame = frame_placed dir o (object_at dir.objects o.number) pending sound.rise sound.frame (keeps_frame dir o may);
  each = each_placed dir o pending sound.each may.fits stands;
  live = live_in_more dir.objects (put o dir.objects) pending (live-put o dir.objects) live;
  distinct = distinct;
}

stays : (dir : Directory) (o : Object) → MayReplace dir o → KeepsParent dir o
    → (o.number ≡ root → explicit_part o.sd ≡ o.sd) → StaysInPlace dir o
stays dir o may parent explicit = record {
  old = object_at dir.objects o.number;
  live = of-live dir.objects o.number
      may.live;
  parent = parent;
  explicit = explicit;
}

-- ---- values and the naming value, with the descriptor from before

same_sd_settled : (dir : Directory) (o old : Object) → object_of dir.objects o.number ≡ Some old → o.parent
    ≡ old.parent → o.class ≡ old.class → o.sd ≡ old.sd
    → (o.number ≡ root → ⊥) → (o.number ≡ o.parent → ⊥) → IsSettledOrCovered dir old
    → IsSettledOrCovered (placed dir o dir.pending) o
same_sd_settled dir o old live parent class sd not_root apart before =
    let number : old.number ≡ o.number = of_number dir.objects o.number old live in
    let below : old.number ≡ root → ⊥ = λ (e : old.number ≡ root). not_root (sym number ∙ e) in
    elim before [
      | inl was_settled ↦ inl (
          sd ∙ was_settled ∙ whole_below dir old below
          ∙ ap (λ (n : ℕ). whole (sd_at dir.objects n) old.sd (guid_at dir.schema old.class)) (sym parent)
          ∙ ap (λ (x : Object). whole x.sd old.sd (guid_at dir.schema old.class))
          (sym (at-put_other o dir.objects o.parent apart))
          ∙ ap (λ (own : Sd). whole (sd_at (put o dir.objects) o.parent) own (guid_at dir.schema old.class)) (sym sd)
          ∙ ap (λ (k : ℕ). whole (sd_at (put o dir.objects) o.parent) o.sd (guid_at dir.schema k)) (sym class)
          ∙ sym (whole_below (placed dir o dir.pending) o not_root))
      | inr covered ↦ inr (
          ap (λ (n : ℕ). covers dir.pending n o.number) parent
          ∙ ap (λ (n : ℕ). covers dir.pending old.parent n) (sym number)
          ∙ covered)
    ]

-- the parent of a replaced object is another one
not_below_itself : (dir : Directory) (o : Object) → IsSound dir → MayReplace dir o → KeepsParent dir o
    → (o.number ≡ root → ⊥) → o.number ≡ o.parent → ⊥
not_below_itself dir o sound may parent not_root same = not_own_parent dir sound.each o.number may.live not_root
    (same ∙ parent)

-- an explicit descriptor at the root stays one
root_explicit : (dir : Directory) (o : Object) → IsSound dir → o.sd ≡ sd_at dir.objects o.number → o.number ≡ root
    → explicit_part o.sd ≡ o.sd
root_explicit dir o sound sd is_root =
    let at_root : o.sd ≡ sd_at dir.objects root = sd ∙ ap (λ (n : ℕ). sd_at dir.objects n) is_root in
    rw at_root (root_at dir sound).explicit

changed_inherits : (dir : Directory) (o : Object) → IsSound dir → MayReplace dir o → KeepsParent dir o
    → KeepsDescriptor dir o → Inherits (placed dir o dir.pending)
changed_inherits dir o sound may parent descriptor
    = keep dir o dir.pending (inherits_but o.number dir (inherits_of dir sound.each)) (record {
      self = λ not_root.
          same_sd_settled dir o (object_at dir.objects o.number) (of-live dir.objects o.number may.live) parent
          descriptor.class descriptor.sd not_root
          (not_below_itself dir o sound may parent not_root)
          ((inherits_of dir sound.each).each o.number (object_at dir.objects o.number)
          (of-live dir.objects o.number may.live) not_root);
      others = λ m x is covered. covered;
      children = inl (sym descriptor.sd);
    })

pub changed_sound : (dir : Directory) (o : Object) → IsSound dir → MayReplace dir o → KeepsParent dir o
    → KeepsDescriptor dir o → IsSound (changed dir o)
unfolding changed
changed_sound dir o sound may parent descriptor =
    replaced dir o dir.pending sound may
    (each_stands dir o dir.pending sound.each (stays dir o may parent (root_explicit dir o sound descriptor.sd))
    (changed_inherits dir o sound may parent descriptor))
    sound.live sound.distinct

-- ---- a descriptor

-- what the marking rule leaves pending
marks : Directory → Object → List Pending
marks dir o = marked_if_changed (sd_at dir.objects o.number) o dir.pending

marks_live : (dir : Directory) (o : Object) → IsSound dir → is_live dir.objects o.number ≡ true
    → AreLive dir.objects (marks dir o)
unfolding marks
marks_live dir o sound live = live_marked_if dir.objects (sd_at dir.objects o.number) o dir.pending live sound.live

marks_distinct : (dir : Directory) (o : Object) → IsSound dir → AreDistinct (marks dir o)
unfolding marks
marks_distinct dir o sound = distinct_marked_if (sd_at dir.objects o.number) o dir.pending sound.distinct

-- An object put and marked where its descriptor changed, which is settled or covered there.
pub stored_sound : (dir : Directory) (o : Object) → IsSound dir → MayReplace dir o → KeepsParent dir o
    → (o.number ≡ root → explicit_part o.sd ≡ o.sd)
    → ((o.number ≡ root → ⊥) → IsSettledOrCovered (stored dir o) o) → IsSound (stored dir o)
unfolding stored marks
stored_sound dir o sound may parent explicit self =
    replaced dir o (marks dir o) sound may
    (each_stands dir o (marks dir o) sound.each (stays dir o may parent explicit)
    (stored_inherits dir o sound.rise (inherits_but o.number dir (inherits_of dir sound.each)) self))
    (marks_live dir o sound may.live) (marks_distinct dir o sound)

-- what is asked doesn't look at the descriptor
may_settled : (dir : Directory) (o : Object) (new : Sd) → MayReplace dir o → MayReplace dir (with_sd new o)
may_settled dir o new may = record {
  live = may.live;
  fits = record {
    content = record {
      class_of_schema = may.fits.content.class_of_schema;
      name = may.fits.content.name;
      attrs_rise
          = may.fits.content.attrs_rise;
      each = may.fits.content.each;
    };
    links = all_live_more (put o dir.objects) (put (with_sd new o) dir.objects) (links_in o.values)
        (λ n live. live_again n live) may.fits.links;
    own_name = may.fits.own_name;
    own_sid = λ m other sid live has own. may.fits.own_sid m other sid live has
        (sym (sid_with_sd dir.schema o new) ∙ own);
  };
  same_sid = sid_with_sd dir.schema o new ∙ may.same_sid;
  weight = weight_again;
}
  where
    live_again : (n : ℕ) → is_live (put o dir.objects) n ≡ true → is_live (put (with_sd new o) dir.objects) n ≡ true
    live_again n live = live-put (with_sd new o) dir.objects n (live_before o dir.objects n may.live live)

    weight_again : weight (with_objects (put (with_sd new o) dir.objects) dir) ≤ max_weight
    weight_again = subst (λ (w : ℕ). w ≤ max_weight) (sym (weight_settled dir o new)) may.weight

settled_now : (dir : Directory) (o : Object) → (o.number ≡ root → ⊥) → (o.number ≡ o.parent → ⊥)
    → IsSettled (stored dir (settled dir o)) (settled dir o)
unfolding stored
settled_now dir o not_root apart = settled_is dir o
    (marked_if_changed (sd_at dir.objects o.number) (settled dir o) dir.pending) not_root apart

pub written_sound : (dir : Directory) (o : Object) → IsSound dir → MayReplace dir o → KeepsParent dir o
    → IsSound (written dir o)
unfolding written
written_sound dir o sound may parent =
    stored_sound dir (settled dir o) sound (may_settled dir o (whole_at dir o) may) parent
    (λ is_root. ap explicit_part (whole_root dir o is_root) ∙ explicit-explicit o.sd ∙ sym (whole_root dir o is_root))
    (λ not_root. inl (settled_now dir o not_root (not_below_itself dir o sound may parent not_root)))

-- ---- a move

parent_of_put : (o : Object) (new : Sd) (objects : List Object) (n : ℕ) → parent_at (put o objects) n
    ≡ parent_at (put (with_sd new o) objects) n
parent_of_put o new objects n =
    elim (cases_Bool (nat_eq o.number n)) [
      | inl same ↦ subst (λ (k : ℕ). parent_at (put o objects) k ≡ parent_at (put (with_sd new o) objects) k)
          (eqb-true o.number n same)
          (ap (λ (x : Object). x.parent) (at-put_same o objects) ∙ ap (λ (x : Object). x.parent)
          (sym (at-put_same (with_sd new o) objects)))
      | inr differ ↦
          let apart : o.number ≡ n → ⊥ = eqb-false o.number n differ in
          ap (λ (x : Object). x.parent) (at-put_other o objects n apart) ∙ ap (λ (x : Object). x.parent)
          (sym (at-put_other (with_sd new o) objects n apart))
    ]

parents_of_put : (o : Object) (new : Sd) (objects : List Object) → parent_at (put o objects)
    ≡ parent_at (put (with_sd new o) objects)
parents_of_put o new objects = λ i n. parent_of_put o new objects n i

move_settled : (dir : Directory) (o : Object) (new : Sd) → MayMove dir o → MayMove dir (with_sd new o)
move_settled dir o new move = record {
  below = move.below;
  parent_live = move.parent_live;
  apart = move.apart;
  placed = λ n live. subst (λ (parent : ℕ → ℕ). IsPlaced parent n) (parents_of_put o new dir.objects)
      (move.placed n live);
}

moved_stands : (dir : Directory) (o x : Object) (m : ℕ) (pending : List Pending) → IsSound dir → MayReplace dir o
    → MayMove dir o → Inherits (placed dir o pending)
    → object_of (put o dir.objects) m ≡ Some x → Stands (placed dir o pending) x
moved_stands dir o x m pending sound may move inherits is =
    elim (put_or_before o dir.objects m x is) [
      | inl itself ↦ subst (Stands (placed dir o pending)) itself
          (stands_from_below (placed dir o pending) o move.below (record {
            parent_live = live-put o dir.objects o.parent move.parent_live;
            placed = move.placed o.number may.live;
            inherits = inherits.each o.number o (of-put_same o dir.objects) move.below;
          }))
      | inr before ↦
          let old : Stands dir x = (sound.each m x before.live).stands in
          elim (cases_Bool (nat_eq x.number root)) [
            | inl same ↦
                let is_root : x.number ≡ root = eqb-true x.number root same in
                stands_from_root (placed dir o pending) x is_root (stands_root dir x is_root old)
            | inr differ ↦
                let not_root : x.number ≡ root → ⊥ = eqb-false x.number root differ in
                let below : IsBelowRoot dir x = stands_below dir x not_root old in
                stands_from_below (placed dir o pending) x not_root (record {
                  parent_live = live-put o dir.objects x.parent below.parent_live;
                  placed = move.placed x.number (rw before.number (live-of dir.objects m x before.live));
                  inherits = inherits.each m x is (λ (e : m ≡ root). not_root (before.number ∙ e));
                })
          ]
    ]

pub moved_sound : (dir : Directory) (o : Object) → IsSound dir → MayReplace dir o → MayMove dir o
    → IsSound (written dir o)
unfolding written stored marks
moved_sound dir o sound may move =
    replaced dir (settled dir o) (marks dir (settled dir o)) sound (may_settled dir o (whole_at dir o) may)
    (λ m x is. moved_stands dir (settled dir o) x m (marks dir (settled dir o)) sound
    (may_settled dir o (whole_at dir o) may) (move_settled dir o (whole_at dir o) move)
    (written_inherits dir o sound.rise (inherits_but o.number dir (inherits_of dir sound.each)) move.apart) is)
    (marks_live dir (settled dir o) sound may.live) (marks_distinct dir (settled dir o) sound)
