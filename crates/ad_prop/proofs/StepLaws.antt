-- The edits of a step may be applied, and make the step.
use Rattle.std.proofs.Common.{◌≡◌, ◌≢◌, ℕ, ◌<◌, Bool, true, false, not, List, [], ◌∷◌, ◌++◌, length, drop, map, None}
use Rattle.std.proofs.Common.{Some, refl, sym, subst, ap, ◌∙◌, arith}
use Rattle.std.specs.Prelude.{slice_get, if◌then◌else◌}
use Rattle.std.specs.List.{AllByRecursion}
use Rattle.std.specs.Option.{ForSome}
use Rattle.std.specs.Global.{Vec}
use Rattle.std.proofs.lemmas.List.{map-append}
use Rattle.std.proofs.lemmas.Option.{none-some, same_Some}
use Rattle.ad_sd.specs.declared.parts.Sd.{Sd}
use Rattle.ad_sd.specs.Normal.{SpellsNormal}
use Rattle.ad_sd.specs.SdIn.{sd_in}
use Rattle.ad_sd.proofs.NormalReader.{spelled_in}
use Rattle.prop_queue.specs.declared.pending.Pending.{Pending}
use Rattle.prop_queue.specs.Pending.{marked, advanced}
use Rattle.ad_dir_objects.specs.declared.edit.Edit.{Edit as EditIn}
use Rattle.ad_dir_objects.specs.declared.edit.Edit.TheVariants as edit
use Rattle.ad_dir_objects.specs.declared.object.Object.{Object as ObjectIn}
use Rattle.ad_dir.specs.Applying.{MayApplyAll}
use Rattle.ad_dir.specs.Conditions.{HasNormal, May, MayApply, MayPut, MayPend, AreEdits}
use Rattle.ad_dir_objects.specs.Seen.{object_seen, edit_seen}
use Rattle.ad_dir.proofs.AllMay.{MayAll, may_all}
use Rattle.ad_dir.proofs.Replacing.{IsAlike, alike_itself, may_put}
use Rattle.ad_dir_model.specs.Object.{Object}
use Rattle.ad_dir_model.specs.Objects.{object_at, sd_at, is_live, next_child, put}
use Rattle.ad_dir_model.specs.Directory.{Directory, Edit, put_object, put_queue, with_objects, with_pending, edited}
use Rattle.ad_dir_model.specs.Directory.{all_edited}
use Rattle.ad_dir_model.specs.Inheritance.{whole_at, settled, marked_if_changed, stored, written}
use Rattle.ad_dir_model.specs.SameSd.{same_sd}
use Rattle.ad_dir_model.specs.Soundness.{IsSound, IsSoundObject}
use Rattle.ad_dir_model.specs.Steps.{head_stepped, stepped, step}
use Rattle.ad_dir_model.proofs.EditLaws.{edited_append}
use Rattle.ad_dir_model.proofs.Finding.{of-live, at_number}
use Rattle.ad_dir_model.proofs.PendingLaws.{AreLive}
use Rattle.ad_dir_model.proofs.StepSound.{IsNext, next_is, child_below, sid_with_sd, step_sound}
use Rattle.ad_prop.specs.Step.{MakeStep, MakeStepBeside, TakesTurn}
use Rattle.ad_prop.specs.Turn.{IsTurn, AreAllEdits, IsGiven}
use Rattle.ad_prop.specs.declared.turning.Turn.{Turn}
use Rattle.ad_prop.specs.declared.turning.Turn.TheVariants as turn_is

-- ---- the head

pub head_is : (ps : List Pending) (head : Pending) → slice_get ps 0 ≡ Some head → ps ≡ head ∷ drop 1 ps
head_is [] head is = absurd (none-some head is)
head_is (p ∷ ps) head is = ap (λ (q : Pending). q ∷ ps) (same_Some p head is)

pub none_pending : (ps : List Pending) → slice_get ps 0 ≡ None → ps ≡ []
none_pending [] is = refl
none_pending (p ∷ ps) is = absurd (none-some p (sym is))

pub some_pending : (ps : List Pending) (head : Pending) → slice_get ps 0 ≡ Some head → 0 < length ps
some_pending ps head is =
    let parts : length ps ≡ length (head ∷ drop 1 ps) = ap length (head_is ps head is) in
    omega (arith, parts)

not_empty : (ps : List Pending) (head : Pending) → slice_get ps 0 ≡ Some head → ps ≢ []
not_empty ps head is = λ e. none-some head (ap (λ (qs : List Pending). slice_get qs 0) (sym e) ∙ is)

-- ---- the child

pub next_of : (dir : Directory) (queue : List Pending) (head : Pending) (child : ℕ) → IsSound (with_pending queue dir)
    → next_child dir.objects head.parent head.cursor ≡ Some child → IsNext (with_pending queue dir) head child
next_of dir queue head child sound is = next_is (with_pending queue dir) head child sound.rise is

pub turn : (dir : Directory) (queue : List Pending) (head : Pending) (child : ℕ) → IsSound (with_pending queue dir)
    → slice_get queue 0 ≡ Some head
    → next_child dir.objects head.parent head.cursor ≡ Some child → IsTurn dir child
turn dir queue head child sound at is =
    let next : IsNext (with_pending queue dir) head child = next_of dir queue head child sound is in
    let head_live : is_live dir.objects head.parent ≡ true
    = (subst (AreLive dir.objects) (head_is queue head at) sound.live).0 in
    record {
      live = next.live;
      below = child_below (with_pending queue dir) head child sound head_live next;
      parent_live = ap (is_live dir.objects) next.parent ∙ head_live;
      class = (sound.each child (object_at dir.objects child)
          (of-live dir.objects child next.live)).content.class_of_schema;
    }

-- the cursor of the head is below it
pub ahead : (dir : Directory) (queue : List Pending) (head : Pending) (child : ℕ) → IsSound (with_pending queue dir)
    → slice_get queue 0 ≡ Some head
    → next_child dir.objects head.parent head.cursor ≡ Some child → ForSome (slice_get queue 0)
    (λ (h : Pending). h.cursor < child)
ahead dir queue head child sound at is = λ h e.
    subst (λ (x : Pending). x.cursor < child) (same_Some head h (sym at ∙ e))
    (next_of dir queue head child sound is).above

abbrev new_child : Directory → ℕ → Object
new_child dir child = settled dir (object_at dir.objects child)

child_may_put : (dir : Directory) (queue : List Pending) (child : ℕ) → IsSound (with_pending queue dir)
    → is_live dir.objects child ≡ true
    → MayPut dir (new_child dir child)
child_may_put dir queue child sound live =
    may_put (with_pending queue dir) dir.objects dir.pending (new_child dir child) sound
    (alike_itself dir.schema dir.objects) live_here
    (subst (λ (n : ℕ). IsAlike dir.schema (new_child dir child) (object_at dir.objects n)) (sym number)
    (record {
      parent = refl;
      name = refl;
      sid = sid_with_sd dir.schema (object_at dir.objects child) (whole_at dir (object_at dir.objects child));
    }))
    (record {
      class_of_schema = is.content.class_of_schema;
      name = is.content.name;
      attrs_rise
          = is.content.attrs_rise;
      each = is.content.each;
    })
    is.links
  where
    number : (object_at dir.objects child).number ≡ child
    number = at_number dir.objects child live

    live_here : is_live dir.objects (object_at dir.objects child).number ≡ true
    live_here = ap (is_live dir.objects) number ∙ live

    is : IsSoundObject (with_pending queue dir) (object_at dir.objects child)
    is = sound.each child (object_at dir.objects child) (of-live dir.objects child live)

-- ---- a step beside the list

-- the list after the turn of a child
abbrev child_marks : Directory → List Pending → ℕ → List Pending
child_marks dir queue child = marked_if_changed (sd_at dir.objects child) (new_child dir child) (advanced child queue)

child_written : (dir : Directory) (queue others : List Pending) (child : ℕ) → is_live dir.objects child ≡ true
    → head_stepped (with_pending queue dir) others (Some child)
    ≡ with_pending (child_marks dir queue child) (with_objects (put (new_child dir child) dir.objects) dir)
unfolding written stored whole_at
child_written dir queue others child live =
    ap (λ (n : ℕ). with_pending (marked_if_changed (sd_at dir.objects n) (new_child dir child) (advanced child queue))
    (with_objects (put (new_child dir child) dir.objects) dir)) (at_number dir.objects child live)

child_is_step : (dir : Directory) (queue : List Pending) (head : Pending) (child : ℕ) → is_live dir.objects child
    ≡ true → slice_get queue 0 ≡ Some head
    → next_child dir.objects head.parent head.cursor ≡ Some child
    → step (with_pending queue dir) ≡ with_pending (child_marks dir queue child)
    (with_objects (put (new_child dir child) dir.objects) dir)
unfolding step
child_is_step dir queue head child live at is =
    ap (stepped (with_pending queue dir)) (head_is queue head at)
    ∙ ap (head_stepped (with_pending queue dir) (drop 1 queue)) is
    ∙ child_written dir queue (drop 1 queue) child live

puts_one : (dir : Directory) (o : Object) → all_edited (put_object o ∷ []) dir ≡ with_objects (put o dir.objects) dir
unfolding all_edited edited
puts_one dir o = refl

pub child_step : (dir : Directory) (old new : List Pending) (head : Pending) (child : ℕ) (edits : List EditIn)
    → IsSound (with_pending old dir)
    → slice_get old 0 ≡ Some head → next_child dir.objects head.parent head.cursor ≡ Some child
    → AreEdits (put_object (settled dir (object_at dir.objects child)) ∷ []) edits
    → new ≡ marked_if_changed (sd_at dir.objects child) (settled dir (object_at dir.objects child)) (advanced child old)
    → MakeStepBeside dir old new edits
child_step dir old new head child edits sound at is are marks = record {
  pending = not_empty old head at;
  may = may_all dir edits are.normal (subst (MayAll dir) (sym are.are) (child_may_put dir old child sound live, tt));
  make = ap (λ (es : List Edit). with_pending new (all_edited es dir)) are.are
      ∙ ap (λ (d : Directory). with_pending new d) (puts_one dir (new_child dir child))
      ∙ ap (λ (ps : List Pending). with_pending ps (with_objects (put (new_child dir child) dir.objects) dir)) marks
      ∙ sym (child_is_step dir old head child live at is);
}
  where
    live : is_live dir.objects child ≡ true
    live = (next_of dir old head child sound is).live

pub head_step : (dir : Directory) (old new : List Pending) (head : Pending) (edits : List EditIn) → slice_get old 0
    ≡ Some head
    → next_child dir.objects head.parent head.cursor ≡ None → edits ≡ [] → new ≡ drop 1 old
    → MakeStepBeside dir old new edits
unfolding step all_edited
head_step dir old new head edits at is none dropped = record {
  pending = not_empty old head at;
  may = subst (MayApplyAll dir) (sym none) tt;
  make = ap (λ (es : List EditIn). with_pending new (all_edited (map edit_seen es) dir)) none
      ∙ ap (λ (ps : List Pending). with_pending ps dir) dropped
      ∙ sym (ap (head_stepped (with_pending old dir) (drop 1 old)) is)
      ∙ sym (ap (stepped (with_pending old dir)) (head_is old head at));
}

-- ---- the turn of a step

pub child_takes : (dir : Directory) (old new : List Pending) (head : Pending) (child : ℕ) (taken : Turn)
    → IsSound (with_pending old dir) → slice_get old 0 ≡ Some head
    → next_child dir.objects head.parent head.cursor ≡ Some child → IsGiven dir child taken
    → new ≡ marked_if_changed (sd_at dir.objects child) (settled dir (object_at dir.objects child)) (advanced child old)
    → TakesTurn dir old new taken
child_takes dir old new head child taken sound at is given marks = subst (TakesTurn dir old new) (sym given) (record {
  pending = not_empty old head at;
  may = (live, child_may_put dir old child sound live);
  make = ap (λ (d : Directory). with_pending new d) (puts_one dir (new_child dir child))
      ∙ ap (λ (ps : List Pending). with_pending ps (with_objects (put (new_child dir child) dir.objects) dir)) marks
      ∙ sym (child_is_step dir old head child live at is);
})
  where
    live : is_live dir.objects child ≡ true
    live = (next_of dir old head child sound is).live

pub head_takes : (dir : Directory) (old new : List Pending) (head : Pending) → slice_get old 0 ≡ Some head
    → next_child dir.objects head.parent head.cursor ≡ None → new ≡ drop 1 old
    → TakesTurn dir old new turn_is.Head
unfolding step all_edited
head_takes dir old new head at is dropped = record {
  pending = not_empty old head at;
  may = tt;
  make = ap (λ (ps : List Pending). with_pending ps dir) dropped
      ∙ sym (ap (head_stepped (with_pending old dir) (drop 1 old)) is)
      ∙ sym (ap (stepped (with_pending old dir)) (head_is old head at));
}

-- ---- a step with its list

may_push : (dir : Directory) (edits : List EditIn) (last : EditIn) → MayApplyAll dir edits
    → MayApply (all_edited (map edit_seen edits) dir) last
    → MayApplyAll dir (edits ++ last ∷ [])
unfolding all_edited
may_push dir [] last may one = (one, tt)
may_push dir (edit ∷ edits) last may one = (may.0, may_push (edited (edit_seen edit) dir) edits last may.1 one)

queue_put : (queue : List Pending) (dir : Directory) → all_edited (put_queue queue ∷ []) dir ≡ with_pending queue dir
unfolding all_edited edited
queue_put queue dir = refl

may_pend : (dir : Directory) (queue : List Pending) → IsSound (with_pending queue dir) → MayPend dir queue
may_pend dir queue sound = record { live = sound.live; distinct = sound.distinct }

pub step_whole : (dir : Directory) (queue new : List Pending) (edits all : List EditIn) → IsSound dir → queue
    ≡ dir.pending
    → MakeStepBeside dir queue new edits → AreAllEdits edits new all → MakeStep dir all
step_whole dir queue new edits all sound same made are = record {
  pending = λ none. made.pending (same ∙ none);
  may = subst (MayApplyAll dir) (sym are.1) (may_push dir edits are.0 made.may
      (record { normal = are.3; may = subst (May mid) (sym are.2) (may_pend mid new after) }));
  make = ap (λ (es : List EditIn). all_edited (map edit_seen es) dir) are.1
      ∙ ap (λ (es : List Edit). all_edited es dir) (map-append edit_seen edits (are.0 ∷ []))
      ∙ edited_append (map edit_seen edits) (edit_seen are.0 ∷ []) dir
      ∙ ap (λ (e : Edit). all_edited (e ∷ []) mid) are.2
      ∙ queue_put new mid
      ∙ is_step;
}
  where
    mid : Directory
    mid = all_edited (map edit_seen edits) dir

    is_step : with_pending new mid ≡ step dir
    is_step = made.make ∙ ap (λ (ps : List Pending). step (with_pending ps dir)) same

    after : IsSound (with_pending new mid)
    after = subst IsSound (sym is_step) (step_sound dir sound)

-- ---- what is written of the child

-- the list is marked as the rule says
pub marked_as : (before : Sd) (o : Object) (n : ℕ) (b : Bool) (ps : List Pending) → o.number ≡ n → b
    ≡ not (same_sd before o.sd)
    → (if b then marked n ps else ps) ≡ marked_if_changed before o ps
unfolding marked_if_changed
marked_as before o n b ps number is =
    ap (λ (t : Bool). if t then marked n ps else ps) is ∙ by_test (same_sd before o.sd)
  where
    by_test : (t : Bool) → (if not t then marked n ps else ps) ≡ (if t then ps else marked o.number ps)
    by_test true = refl
    by_test false = ap (λ (k : ℕ). marked k ps) (sym number)

-- what the edit of a child is
pub child_made : (dir : Directory) (child : ℕ) (items : List EditIn) (o : ObjectIn) (bytes : Vec ℕ)
    → items ≡ [] ++ edit.PutObject o bytes ∷ []
    → object_seen o (sd_at dir.objects child) ≡ object_at dir.objects child
    → SpellsNormal (whole_at dir (object_at dir.objects child)) bytes.items
    → AreEdits (put_object (settled dir (object_at dir.objects child)) ∷ []) items
child_made dir child items o bytes parts seen spelled = record {
  are = ap (map edit_seen) parts ∙ ap (λ (x : Object). put_object x ∷ []) object;
  normal = subst (AllByRecursion HasNormal) (sym parts)
      (subst (λ (sd : Sd). SpellsNormal sd bytes.items) (sym in_bytes) spelled, tt);
}
  where
    in_bytes : sd_in bytes.items ≡ whole_at dir (object_at dir.objects child)
    in_bytes = spelled_in bytes.items (whole_at dir (object_at dir.objects child)) spelled

    object : object_seen o (sd_in bytes.items) ≡ new_child dir child
    object = ap (object_seen o) in_bytes ∙ ap
        (λ (x : Object). record x { sd = whole_at dir (object_at dir.objects child) }) seen
