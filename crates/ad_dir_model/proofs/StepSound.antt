-- A step keeps a directory sound.
use Rattle.std.proofs.Common.{◌≡◌, ℕ, zero, suc, ◌<◌, ◌≤◌, true, List, [], ◌∷◌, Option, Some, None, inl, inr, refl}
use Rattle.std.proofs.Common.{sym, subst, ap, arith, ◌∙◌}
use Rattle.std.specs.Prelude.{nat_eq, nat_lt, find, option_map}
use Rattle.std.proofs.lemmas.Bool.{eqb-true, eqb-false, eq-eqb, ltb-true, lt-ltb, cases_Bool, and_parts, and_from}
use Rattle.std.proofs.lemmas.Bool.{both_ways}
use Rattle.std.proofs.lemmas.Option.{none-some, same_Some}
use Rattle.ad_sd.specs.declared.parts.Sd.{Sd}
use Rattle.ad_inherit.specs.Whole.{explicit_part}
use Rattle.prop_queue.specs.declared.pending.Pending.{Pending}
use Rattle.prop_queue.specs.Pending.{AreDistinct, advanced}
use Rattle.ad_schema.specs.declared.line.SchemaRecord.{SchemaRecord}
use Rattle.ad_dir_model.specs.Object.{Object, links_in}
use Rattle.ad_dir_model.specs.Objects.{Rise, object_of, is_live, object_at, sd_at, is_child, next_child, put}
use Rattle.ad_dir_model.specs.Tree.{root, IsAtDepth}
use Rattle.ad_dir_model.specs.Identity.{first_of_attr, sid_in, domain_sid, domain_child}
use Rattle.ad_dir_model.specs.Directory.{Directory, parents, with_pending}
use Rattle.ad_dir_model.specs.Inheritance.{whole_at, IsSettledOrCovered, marked_if_changed, stored, settled, written}
use Rattle.ad_dir_model.specs.Steps.{child_stepped, head_stepped, stepped, step}
use Rattle.ad_dir_model.specs.Weight.{object_weight, weight}
use Rattle.ad_dir_model.specs.Soundness.{IsBelowRoot, Stands, IsSoundObject, EachIsSound, IsSoundFrame, IsSound}
use Rattle.ad_dir_model.specs.Conditions.{Fits}
use Rattle.ad_dir_model.proofs.Finding.{of_number, at-of, of-live, at_number, live-of, live-put, rise_put, live_above}
use Rattle.ad_dir_model.proofs.Finding.{IsFirst, found_first, none_found}
use Rattle.ad_dir_model.proofs.TreeLaws.{depth_unique}
use Rattle.ad_dir_model.proofs.PendingLaws.{AreLive, advanced_keeps, dropped_keeps, live_marked_if}
use Rattle.ad_dir_model.proofs.PendingLaws.{distinct_marked_if, live_advanced, distinct_advanced, live_in_more}
use Rattle.ad_dir_model.proofs.Inheriting.{placed, Inherits, InheritsBut, written_inherits}
use Rattle.ad_dir_model.proofs.ScratchLaws.{stands_root, stands_below, below_at, root_at}
use Rattle.ad_dir_model.proofs.Placing.{all_live_more, each_placed}
use Rattle.ad_dir_model.proofs.Standing.{stands_from_root, stands_from_below, each_stands}
use Rattle.ad_dir_model.proofs.Frames.{KeepsFrame, lighter, frame_placed}

-- ---- in a sound directory

pub inherits_of : (dir : Directory) → EachIsSound dir → Inherits dir
inherits_of dir each = record {
  each = λ m x is not_root.
      let number : x.number ≡ m = of_number dir.objects m x is in
      (stands_below dir x (λ (e : x.number ≡ root). not_root (sym number ∙ e)) (each m x is).stands).inherits;
}

-- no object is its own parent
pub not_own_parent : (dir : Directory) → EachIsSound dir → (n : ℕ) → is_live dir.objects n ≡ true → (n ≡ root → ⊥) → n
    ≡ (object_at dir.objects n).parent → ⊥
not_own_parent dir each n live not_root is =
    let number : (object_at dir.objects n).number ≡ n = at_number dir.objects n live in
    let placed = (below_at dir each n live not_root).placed in
    by_depth placed.depth (subst (IsAtDepth (parents dir) placed.depth) number placed.chain)
  where
    by_depth : (depth : ℕ) → IsAtDepth (parents dir) depth n → ⊥
    by_depth zero at = not_root at
    by_depth (suc depth) at =
        let same : depth ≡ suc depth = depth_unique (parents dir) n depth (suc depth)
        (subst (IsAtDepth (parents dir) depth) (sym is) at.1) at in
        absurd (omega arith)

-- ---- another pending list

same_stands : (dir : Directory) (pending : List Pending) (x : Object)
    → ((x.number ≡ root → ⊥) → IsSettledOrCovered (with_pending pending dir) x) → Stands dir x
    → Stands (with_pending pending dir) x
same_stands dir pending x inherits before =
    elim (cases_Bool (nat_eq x.number root)) [
      | inl same ↦
          let is : x.number ≡ root = eqb-true x.number root same in
          stands_from_root (with_pending pending dir) x is (stands_root dir x is before)
      | inr differ ↦
          let not_root : x.number ≡ root → ⊥ = eqb-false x.number root differ in
          let below : IsBelowRoot dir x = stands_below dir x not_root before in
          stands_from_below (with_pending pending dir) x not_root
          (record { parent_live = below.parent_live; placed = below.placed; inherits = inherits not_root })
    ]

same_frame : (dir : Directory) (pending : List Pending) → IsSoundFrame dir → IsSoundFrame (with_pending pending dir)
unfolding domain_sid domain_child weight
same_frame dir pending frame = record {
  schema = frame.schema;
  counters = record {
    number_above = frame.counters.number_above;
    rid_above = frame.counters.rid_above;
    number_fits
        = frame.counters.number_fits;
    rid_fits = frame.counters.rid_fits;
  };
  limits = record {
    objects = frame.limits.objects;
    weight = frame.limits.weight;
    suffix
        = frame.limits.suffix;
    records = frame.limits.records;
  };
  root_live = frame.root_live;
}

pub pended : (dir : Directory) (pending : List Pending) → IsSound dir → Inherits (with_pending pending dir)
    → AreLive dir.objects pending → AreDistinct pending → IsSound (with_pending pending dir)
pended dir pending sound inherits live distinct = record {
  rise = sound.rise;
  frame = same_frame dir pending sound.frame;
  each = λ m x is.
      let old : IsSoundObject dir x = sound.each m x is in
      let number : x.number ≡ m = of_number dir.objects m x is in
      record {
        content = old.content;
        stands = same_stands dir pending x
            (λ not_root. inherits.each m x is (λ (e : m ≡ root). not_root (number ∙ e))) old.stands;
        links = old.links;
        own_name = old.own_name;
        own_sid = old.own_sid;
      };
  live = live;
  distinct = distinct;
}

-- ---- another descriptor

abbrev pub with_sd : Sd → Object → Object
with_sd sd o = record o { sd = sd }

pub sid_with_sd : (schema : List SchemaRecord) (o : Object) (sd : Sd) → sid_in schema (with_sd sd o) ≡ sid_in schema o
unfolding sid_in first_of_attr
sid_with_sd schema o sd = refl

weight_with_sd : (schema : List SchemaRecord) (o : Object) (sd : Sd) → object_weight schema (with_sd sd o)
    ≤ object_weight schema o
unfolding object_weight
weight_with_sd schema o sd = omega arith

pub may_with_sd : (dir : Directory) (old : Object) (new : Sd) → IsSoundObject dir old → Fits dir (with_sd new old)
may_with_sd dir old new is = record {
  content = record {
    class_of_schema = is.content.class_of_schema;
    name = is.content.name;
    attrs_rise
        = is.content.attrs_rise;
    each = is.content.each;
  };
  links = all_live_more dir.objects (put (with_sd new old) dir.objects) (links_in old.values)
      (live-put (with_sd new old) dir.objects) is.links;
  own_name = is.own_name;
  own_sid = λ m other sid live has own. is.own_sid m other sid live has (sym (sid_with_sd dir.schema old new) ∙ own);
}

pub frame_with_sd : (dir : Directory) (old : Object) (new : Sd) → IsSound dir → object_of dir.objects old.number
    ≡ Some old → KeepsFrame dir (with_sd new old) old
frame_with_sd dir old new sound live = record {
  live = live;
  sid = sid_with_sd dir.schema old new;
  weight = lighter dir (with_sd new old) old sound.rise sound.frame.limits live (weight_with_sd dir.schema old new);
}

-- A directory in which one object has another descriptor, and another list is pending.
pub sd_placed : (dir : Directory) (old : Object) (new : Sd) (pending : List Pending) → IsSound dir
    → object_of dir.objects old.number ≡ Some old
    → (old.number ≡ root → explicit_part new ≡ new) → Inherits (placed dir (with_sd new old) pending)
    → AreLive dir.objects pending → AreDistinct pending
    → IsSound (placed dir (with_sd new old) pending)
sd_placed dir old new pending sound is explicit inherits live distinct = record {
  rise = rise_put 0 (with_sd new old) dir.objects sound.rise
      (live_above 0 dir.objects old.number sound.rise (live-of dir.objects old.number old is));
  frame = frame_placed dir (with_sd new old) old pending sound.rise sound.frame (frame_with_sd dir old new sound is);
  each = each_placed dir (with_sd new old) pending sound.each (may_with_sd dir old new (sound.each old.number old is))
      (each_stands dir (with_sd new old) pending sound.each
      (record { old = old; live = is; parent = refl; explicit = explicit }) inherits);
  live = live_in_more dir.objects (put (with_sd new old) dir.objects) pending (live-put (with_sd new old) dir.objects)
      live;
  distinct = distinct;
}

-- ---- the least child

-- what a look-up of the next child finds
pub record IsNext (dir : Directory) (head : Pending) (child : ℕ) : Type 0 where
  pub live : is_live dir.objects child ≡ true
  pub parent : (object_at dir.objects child).parent ≡ head.parent
  pub above : head.cursor < child
  pub least : (m : ℕ) (x : Object) → object_of dir.objects m ≡ Some x → x.parent ≡ head.parent → head.cursor < m
      → child ≤ m

from_first : (dir : Directory) (head : Pending) (o : Object) → IsFirst (is_child head.parent head.cursor) 0
    dir.objects o → IsNext dir head o.number
from_first dir head o first =
    let at : object_at dir.objects o.number ≡ o = at-of dir.objects o.number o first.live in
    let parts = and_parts (nat_eq o.parent head.parent) (nat_lt head.cursor o.number) first.passes in
    record {
      live = live-of dir.objects o.number o first.live;
      parent = ap (λ (x : Object). x.parent) at ∙ eqb-true o.parent head.parent parts.0;
      above = ltb-true head.cursor o.number parts.1;
      least = λ m x is parent above.
          let number : x.number ≡ m = of_number dir.objects m x is in
          first.least m x is (and_from (nat_eq x.parent head.parent) (nat_lt head.cursor x.number)
          (eq-eqb x.parent head.parent parent) (lt-ltb head.cursor x.number (rw number above)));
    }

pub next_is : (dir : Directory) (head : Pending) (child : ℕ) → Rise dir.objects → next_child dir.objects head.parent
    head.cursor ≡ Some child → IsNext dir head child
unfolding next_child
next_is dir head child rise is = by_found (find (is_child head.parent head.cursor) dir.objects) refl is
  where
    by_found : (found : Option Object) → find (is_child head.parent head.cursor) dir.objects ≡ found
        → option_map (λ (o : Object). o.number) found ≡ Some child → IsNext dir head child
    by_found None none is = absurd (none-some child is)
    by_found (Some o) found is = subst (IsNext dir head) (same_Some o.number child is)
        (from_first dir head o (found_first (is_child head.parent head.cursor) 0 dir.objects o rise found))

pub none_is : (dir : Directory) (head : Pending) → next_child dir.objects head.parent head.cursor ≡ None
    → (m : ℕ) (x : Object) → object_of dir.objects m ≡ Some x → x.parent ≡ head.parent → head.cursor < m → ⊥
unfolding next_child
none_is dir head is m x live parent above = by_found (find (is_child head.parent head.cursor) dir.objects) refl is
  where
    by_found : (found : Option Object) → find (is_child head.parent head.cursor) dir.objects ≡ found
        → option_map (λ (o : Object). o.number) found ≡ None → ⊥
    by_found None none is =
        let number : x.number ≡ m = of_number dir.objects m x live in
        both_ways (is_child head.parent head.cursor x)
        (none_found (is_child head.parent head.cursor) dir.objects m x none live)
        (and_from (nat_eq x.parent head.parent) (nat_lt head.cursor x.number) (eq-eqb x.parent head.parent parent)
        (lt-ltb head.cursor x.number (rw number above)))
    by_found (Some o) found is = absurd (none-some o.number (sym is))

-- ---- the step

drop_head : (dir : Directory) (head : Pending) (others : List Pending) → IsSound dir → dir.pending ≡ head ∷ others
    → next_child dir.objects head.parent head.cursor ≡ None → IsSound (with_pending others dir)
unfolding whole_at
drop_head dir head others sound pending none =
    let live : AreLive dir.objects (head ∷ others) = subst (AreLive dir.objects) pending sound.live in
    let distinct : AreDistinct (head ∷ others) = subst AreDistinct pending sound.distinct in
    pended dir others sound (record { each = each }) live.1 distinct.1
  where
    each : (m : ℕ) (x : Object) → object_of dir.objects m ≡ Some x → (m ≡ root → ⊥)
        → IsSettledOrCovered (with_pending others dir) x
    each m x is not_root =
        let number : x.number ≡ m = of_number dir.objects m x is in
        elim ((inherits_of dir sound.each).each m x is not_root) [
          | inl is_settled ↦ inl is_settled
          | inr covered ↦ inr (dropped_keeps head others x.parent x.number
              (λ parent above. none_is dir head none m x is parent (rw (← number) above)) (rw pending at covered))
        ]

advance : (dir : Directory) (head : Pending) (others : List Pending) (child : ℕ) → IsSound dir → dir.pending ≡ head
    ∷ others → IsNext dir head child
    → InheritsBut child (with_pending (advanced child dir.pending) dir)
unfolding whole_at
advance dir head others child sound pending next = record { each = each }
  where
    each : (m : ℕ) (x : Object) → object_of dir.objects m ≡ Some x → (m ≡ root → ⊥) → (m ≡ child → ⊥)
        → IsSettledOrCovered (with_pending (advanced child dir.pending) dir) x
    each m x is not_root apart =
        let number : x.number ≡ m = of_number dir.objects m x is in
        elim ((inherits_of dir sound.each).each m x is not_root) [
          | inl is_settled ↦ inl is_settled
          | inr covered ↦
              inr (rw pending (advanced_keeps head others child x.parent x.number
              (λ parent above.
              let least : child ≤ m = next.least m x is parent (rw (← number) above) in
              let other : m ≡ child → ⊥ = apart in
              rw number (omega arith))
              (rw pending at covered)))
        ]

-- the child of a live parent isn't the root
pub child_below : (dir : Directory) (head : Pending) (child : ℕ) → IsSound dir → is_live dir.objects head.parent
    ≡ true → IsNext dir head child → child ≡ root → ⊥
child_below dir head child sound live next is =
    let none : (object_at dir.objects root).parent ≡ 0 = (root_at dir sound).no_parent in
    let parent : (object_at dir.objects root).parent ≡ head.parent = rw (← is) next.parent in
    let above : 0 < head.parent = live_above 0 dir.objects head.parent sound.rise live in
    absurd (omega arith)

step_child : (dir : Directory) (head : Pending) (others : List Pending) (child : ℕ) → IsSound dir → dir.pending ≡ head
    ∷ others → IsNext dir head child → IsSound (child_stepped dir child)
unfolding written stored
step_child dir head others child sound pending next =
    sd_placed dir o new after sound is explicit inherits live distinct
  where
    o : Object
    o = object_at dir.objects child

    before : Directory
    before = with_pending (advanced child dir.pending) dir

    new : Sd
    new = whole_at before o

    after : List Pending
    after = marked_if_changed (sd_at dir.objects o.number) (settled before o) (advanced child dir.pending)

    number : o.number ≡ child
    number = at_number dir.objects child next.live

    is : object_of dir.objects o.number ≡ Some o
    is = subst (λ (n : ℕ). object_of dir.objects n ≡ Some (object_at dir.objects child)) (sym number)
        (of-live dir.objects child next.live)

    head_live : is_live dir.objects head.parent ≡ true
    head_live = (subst (AreLive dir.objects) pending sound.live).0

    not_root : child ≡ root → ⊥
    not_root = child_below dir head child sound head_live next

    explicit : o.number ≡ root → explicit_part new ≡ new
    explicit is_root = absurd (not_root (sym number ∙ is_root))

    apart : o.number ≡ o.parent → ⊥
    apart same = not_own_parent dir sound.each child next.live not_root (sym number ∙ same)

    inherits : Inherits (placed dir (settled before o) after)
    inherits = written_inherits before o sound.rise
        (subst (λ (n : ℕ). InheritsBut n before) (sym number) (advance dir head others child sound pending next))
        apart

    live : AreLive dir.objects after
    live = live_marked_if dir.objects (sd_at dir.objects o.number) (settled before o) (advanced child dir.pending)
        (live-of dir.objects o.number o is) (live_advanced dir.objects child dir.pending sound.live)

    distinct : AreDistinct after
    distinct = distinct_marked_if (sd_at dir.objects o.number) (settled before o) (advanced child dir.pending)
        (distinct_advanced child dir.pending sound.distinct)

step_head : (dir : Directory) (head : Pending) (others : List Pending) → IsSound dir → dir.pending ≡ head ∷ others
    → (found : Option ℕ) → next_child dir.objects head.parent head.cursor ≡ found
    → IsSound (head_stepped dir others found)
step_head dir head others sound pending None none = drop_head dir head others sound pending none
step_head dir head others sound pending (Some child) is = step_child dir head others child sound pending
    (next_is dir head child sound.rise is)

step_from : (dir : Directory) → IsSound dir → (pending : List Pending) → dir.pending ≡ pending
    → IsSound (stepped dir pending)
step_from dir sound [] is = sound
step_from dir sound (head ∷ others) is = step_head dir head others sound is
    (next_child dir.objects head.parent head.cursor) refl

pub step_sound : (dir : Directory) → IsSound dir → IsSound (step dir)
unfolding step
step_sound dir sound = step_from dir sound dir.pending refl
