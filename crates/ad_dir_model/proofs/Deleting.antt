-- A deletion keeps a directory sound.
use Rattle.std.proofs.Common.{◌≡◌, ℕ, zero, suc, ◌≤◌, Bool, true, false, not, List, [], ◌∷◌, map, length, Option}
use Rattle.std.proofs.Common.{Some, None, inl, inr, refl, sym, subst, ap, arith, ◌∙◌}
use Rattle.std.specs.Prelude.{nat_eq, filter, ◌||◌}
use Rattle.std.specs.List.{AllByRecursion}
use Rattle.std.specs.Option.{option_map, option_and_then}
use Rattle.std.proofs.lemmas.Bool.{eqb-true, eqb-false, ne_eqb, cases_Bool, both_ways, or_parts, or_from}
use Rattle.std.proofs.lemmas.Option.{none-some, same_Some}
use Rattle.ad_ids.specs.SidValue.{SidValue}
use Rattle.ad_ids.specs.SidChild.{child_of}
use Rattle.ad_dn.specs.Fold.{folded}
use Rattle.ad_sd.specs.declared.parts.Sd.{Sd}
use Rattle.ad_inherit.specs.Whole.{whole}
use Rattle.ad_schema.specs.declared.line.SchemaRecord.{SchemaRecord}
use Rattle.prop_queue.specs.declared.pending.Pending.{Pending}
use Rattle.prop_queue.specs.Pending.{is_of, is_pending, AreDistinct}
use Rattle.ad_dir_model.specs.Limits.{max_depth}
use Rattle.ad_dir_model.specs.Object.{Object, links_in}
use Rattle.ad_dir_model.specs.Objects.{RiseAbove, Rise, object_of, is_live, object_at, sd_at, parent_at}
use Rattle.ad_dir_model.specs.Tree.{root, IsAtDepth, IsPlaced, is_below_within, is_below}
use Rattle.ad_dir_model.specs.Identity.{sid_in, domain_sid, domain_child}
use Rattle.ad_dir_model.specs.Directory.{Directory, parents}
use Rattle.ad_dir_model.specs.Inheritance.{guid_at, covers, IsSettledOrCovered}
use Rattle.ad_dir_model.specs.Changes.{unlinked, remaining, goes_with, deleted}
use Rattle.ad_dir_model.specs.Weight.{object_weight, objects_weight, weight}
use Rattle.ad_dir_model.specs.Soundness.{IsRoot, IsBelowRoot, Stands, IsSoundObject, EachIsSound, HasOwnName}
use Rattle.ad_dir_model.specs.Soundness.{HasOwnSid, AreCounters, AreWithinLimits, IsSound}
use Rattle.ad_dir_model.proofs.Finding.{of_number, at-of, of-live, live-of, rise_filter}
use Rattle.ad_dir_model.proofs.TreeLaws.{below_enough}
use Rattle.ad_dir_model.proofs.PendingLaws.{AreLive, covers_by}
use Rattle.ad_dir_model.proofs.Inheriting.{whole_below}
use Rattle.ad_dir_model.proofs.ScratchLaws.{stands_root, stands_below, below_at}
use Rattle.ad_dir_model.proofs.Standing.{stands_from_root, stands_from_below}
use Rattle.ad_dir_model.proofs.WorkLaws.{placed_at}
use Rattle.ad_dir_model.proofs.Unlinking.{links_stay, content_unlinked, unlinked_lighter, sid_unlinked}

-- ---- what is found among the objects that remain

pub of-gone : (goes : ℕ → Bool) (os : List Object) (n : ℕ) → goes n ≡ true → object_of (remaining goes os) n ≡ None
unfolding object_of remaining
of-gone goes [] n gone = refl
of-gone goes (x ∷ xs) n gone =
    elim (cases_Bool (goes x.number)) [
      | inl leaves ↦ rw leaves (of-gone goes xs n gone)
      | inr stays ↦ elim (cases_Bool (nat_eq x.number n)) [
        | inl same ↦ let is : x.number ≡ n = eqb-true x.number n same
            in absurd (both_ways (goes n) (rw is at stays) gone)
        | inr differ ↦ rw (stays, differ) (of-gone goes xs n gone)
      ]
    ]

pub of-stays : (goes : ℕ → Bool) (os : List Object) (n : ℕ) → goes n ≡ false → object_of (remaining goes os) n
    ≡ option_map (unlinked goes) (object_of os n)
unfolding object_of remaining
of-stays goes [] n stay = refl
of-stays goes (x ∷ xs) n stay =
    elim (cases_Bool (goes x.number)) [
      | inl leaves ↦ elim (cases_Bool (nat_eq x.number n)) [
        | inl same ↦ let is : x.number ≡ n = eqb-true x.number n same
            in absurd (both_ways (goes n) stay (rw is at leaves))
        | inr differ ↦ rw (leaves, differ) (of-stays goes xs n stay)
      ]
      | inr stays ↦ elim (cases_Bool (nat_eq x.number n)) [
        | inl same ↦ rw (stays, same) refl
        | inr differ ↦ rw (stays, differ) (of-stays goes xs n stay)
      ]
    ]

-- an object that remains, and what it was
pub record IsRemaining (goes : ℕ → Bool) (os : List Object) (n : ℕ) (x : Object) : Type 0 where
  pub stays : goes n ≡ false
  pub old : Object
  pub live : object_of os n ≡ Some old
  pub is : unlinked goes old ≡ x

from_map : (goes : ℕ → Bool) (found : Option Object) (x : Object) → option_map (unlinked goes) found ≡ Some x
    → (old : Object) × (found ≡ Some old) × (unlinked goes old ≡ x)
from_map goes None x is = absurd (none-some x is)
from_map goes (Some old) x is = (old, refl, same_Some (unlinked goes old) x is)

pub remains : (goes : ℕ → Bool) (os : List Object) (n : ℕ) (x : Object) → object_of (remaining goes os) n ≡ Some x
    → IsRemaining goes os n x
remains goes os n x is =
    elim (cases_Bool (goes n)) [
      | inl gone ↦ absurd (none-some x (sym (of-gone goes os n gone) ∙ is))
      | inr stays ↦
          let found = from_map goes (object_of os n) x (sym (of-stays goes os n stays) ∙ is) in
          record { stays = stays; old = found.0; live = found.1; is = found.2 }
    ]

pub at-stays : (goes : ℕ → Bool) (os : List Object) (n : ℕ) → goes n ≡ false → is_live os n ≡ true
    → object_at (remaining goes os) n ≡ unlinked goes (object_at os n)
at-stays goes os n stays live = at-of (remaining goes os) n (unlinked goes (object_at os n))
    (of-stays goes os n stays ∙ ap (option_map (unlinked goes)) (of-live os n live))

pub live-stays : (goes : ℕ → Bool) (os : List Object) (n : ℕ) → goes n ≡ false → is_live os n ≡ true
    → is_live (remaining goes os) n ≡ true
live-stays goes os n stays live = live-of (remaining goes os) n (unlinked goes (object_at os n))
    (of-stays goes os n stays ∙ ap (option_map (unlinked goes)) (of-live os n live))

pub was_live : (goes : ℕ → Bool) (os : List Object) (n : ℕ) → is_live (remaining goes os) n ≡ true → is_live os n ≡ true
was_live goes os n live = let found = remains goes os n (object_at (remaining goes os) n)
    (of-live (remaining goes os) n live) in live-of os n found.old found.live

rise_unlinked : (goes : ℕ → Bool) (m : ℕ) (os : List Object) → RiseAbove m os → RiseAbove m (map (unlinked goes) os)
rise_unlinked goes m [] rise = tt
rise_unlinked goes m (x ∷ xs) rise = (rise.0, rise_unlinked goes x.number xs rise.1)

pub rise_remaining : (goes : ℕ → Bool) (os : List Object) → Rise os → Rise (remaining goes os)
unfolding remaining
rise_remaining goes os rise = rise_unlinked goes 0 (filter (λ o. not (goes o.number)) os)
    (rise_filter (λ (o : Object). not (goes o.number)) 0 os rise)

-- ---- the limits

few_remaining : (goes : ℕ → Bool) (os : List Object) → length (remaining goes os) ≤ length os
unfolding remaining
few_remaining goes [] = omega arith
few_remaining goes (x ∷ xs) =
    let rest : length (remaining goes xs) ≤ length xs = few_remaining goes xs in
    elim (cases_Bool (goes x.number)) [
      | inl leaves ↦ rw leaves (omega arith)
      | inr stays ↦ rw stays (omega arith)
    ]

light_remaining : (schema : List SchemaRecord) (goes : ℕ → Bool) (os : List Object)
    → objects_weight schema (remaining goes os) ≤ objects_weight schema os
unfolding remaining objects_weight
light_remaining schema goes [] = omega arith
light_remaining schema goes (x ∷ xs) =
    let rest : objects_weight schema (remaining goes xs) ≤ objects_weight schema xs = light_remaining schema goes xs in
    let here : object_weight schema (unlinked goes x) ≤ object_weight schema x = unlinked_lighter schema goes x in
    elim (cases_Bool (goes x.number)) [
      | inl leaves ↦ rw leaves (omega arith)
      | inr stays ↦ rw stays (omega arith)
    ]

-- ---- what goes is closed downwards, and isn't the root

pub record GoesDown (dir : Directory) (goes : ℕ → Bool) : Type 0 where
  pub root_stays : goes root ≡ false
  pub parent_stays : (n : ℕ) → is_live dir.objects n ≡ true → (n ≡ root → ⊥) → goes n ≡ false → goes (parents dir n)
      ≡ false

abbrev pub without_those : Directory → (ℕ → Bool) → Directory
without_those dir goes = record dir {
  objects = remaining goes dir.objects;
  pending = filter (λ entry. not (goes entry.parent)) dir.pending;
}

parent_same : (dir : Directory) (goes : ℕ → Bool) (n : ℕ) → goes n ≡ false → is_live dir.objects n ≡ true
    → parent_at (remaining goes dir.objects) n ≡ parents dir n
parent_same dir goes n stays live = ap (λ (x : Object). x.parent) (at-stays goes dir.objects n stays live)

sd_same : (dir : Directory) (goes : ℕ → Bool) (n : ℕ) → goes n ≡ false → is_live dir.objects n ≡ true
    → sd_at (remaining goes dir.objects) n ≡ sd_at dir.objects n
sd_same dir goes n stays live = ap (λ (x : Object). x.sd) (at-stays goes dir.objects n stays live)

depth_stays : (dir : Directory) (goes : ℕ → Bool) → EachIsSound dir → GoesDown dir goes → (d n : ℕ)
    → is_live dir.objects n ≡ true → goes n ≡ false → IsAtDepth (parents dir) d n
    → IsAtDepth (parent_at (remaining goes dir.objects)) d n
depth_stays dir goes each down zero n live stays at = at
depth_stays dir goes each down (suc d) n live stays at =
    let parent_live : is_live dir.objects (parents dir n) ≡ true = (below_at dir each n live at.0).parent_live in (
      at.0,
      rw (parent_same dir goes n stays live)
          (depth_stays dir goes each down d (parents dir n) parent_live (down.parent_stays n live at.0 stays) at.1),
    )

-- ---- the pending list

covers_stay : (goes : ℕ → Bool) (pending : List Pending) (parent child : ℕ) → goes parent ≡ false
    → covers (filter (λ (e : Pending). not (goes e.parent)) pending) parent child ≡ covers pending parent child
unfolding covers
covers_stay goes [] parent child stays = refl
covers_stay goes (e ∷ es) parent child stays =
    elim (cases_Bool (goes e.parent)) [
      | inl leaves ↦
          let apart : e.parent ≡ parent → ⊥ = λ (is : e.parent ≡ parent). both_ways (goes parent) stays
          (rw is at leaves) in
          rw (leaves, ne_eqb e.parent parent apart) (covers_stay goes es parent child stays)
      | inr stay ↦ rw stay (ap (λ (rest : Bool). covers_by parent child e || rest)
          (covers_stay goes es parent child stays))
    ]

not_pending_stays : (goes : ℕ → Bool) (n : ℕ) (es : List Pending) → is_pending n es ≡ false
    → is_pending n (filter (λ (e : Pending). not (goes e.parent)) es) ≡ false
not_pending_stays goes n [] none = refl
not_pending_stays goes n (e ∷ es) none =
    let parts = or_parts (is_of n e) (is_pending n es) none in
    elim (cases_Bool (goes e.parent)) [
      | inl leaves ↦ rw leaves (not_pending_stays goes n es parts.1)
      | inr stay ↦ rw stay (or_from (is_of n e) (is_pending n (filter (λ (x : Pending). not (goes x.parent)) es))
          parts.0 (not_pending_stays goes n es parts.1))
    ]

distinct_stays : (goes : ℕ → Bool) (es : List Pending) → AreDistinct es
    → AreDistinct (filter (λ (e : Pending). not (goes e.parent)) es)
distinct_stays goes [] distinct = tt
distinct_stays goes (e ∷ es) distinct =
    elim (cases_Bool (goes e.parent)) [
      | inl leaves ↦ rw leaves (distinct_stays goes es distinct.1)
      | inr stay ↦ rw stay (not_pending_stays goes e.parent es distinct.0, distinct_stays goes es distinct.1)
    ]

live_stays : (goes : ℕ → Bool) (os : List Object) (es : List Pending) → AreLive os es → AreLive (remaining goes os)
    (filter (λ (e : Pending). not (goes e.parent)) es)
live_stays goes os [] live = tt
live_stays goes os (e ∷ es) live =
    elim (cases_Bool (goes e.parent)) [
      | inl leaves ↦ rw leaves (live_stays goes os es live.1)
      | inr stay ↦ rw stay (live-stays goes os e.parent stay live.0, live_stays goes os es live.1)
    ]

-- ---- one object that remains

inherits_again : (dir : Directory) (goes : ℕ → Bool) (n : ℕ) (old : Object) → IsSound dir → GoesDown dir goes
    → object_of dir.objects n ≡ Some old → goes n ≡ false → (n ≡ root → ⊥)
    → IsSettledOrCovered dir old → IsSettledOrCovered (without_those dir goes) (unlinked goes old)
inherits_again dir goes n old sound down is stays not_root before =
    elim before [
      | inl was_settled ↦ inl (
          was_settled ∙ whole_below dir old below
          ∙ ap (λ (sd : Sd). whole sd old.sd (guid_at dir.schema old.class))
          (sym (sd_same dir goes old.parent parent_stays parent_live))
          ∙ sym (whole_below (without_those dir goes) (unlinked goes old) below))
      | inr covered ↦ inr (covers_stay goes dir.pending old.parent old.number parent_stays ∙ covered)
    ]
  where
    number : old.number ≡ n
    number = of_number dir.objects n old is

    below : old.number ≡ root → ⊥
    below e = not_root (sym number ∙ e)

    at : object_at dir.objects n ≡ old
    at = at-of dir.objects n old is

    live : is_live dir.objects n ≡ true
    live = live-of dir.objects n old is

    parent_live : is_live dir.objects old.parent ≡ true
    parent_live = (stands_below dir old below (sound.each n old is).stands).parent_live

    parent_stays : goes old.parent ≡ false
    parent_stays = rw (← at) (down.parent_stays n live not_root stays)

stands_again : (dir : Directory) (goes : ℕ → Bool) (n : ℕ) (old : Object) → IsSound dir → GoesDown dir goes
    → object_of dir.objects n ≡ Some old → goes n ≡ false → Stands (without_those dir goes) (unlinked goes old)
stands_again dir goes n old sound down is stays =
    elim (cases_Bool (nat_eq old.number root)) [
      | inl same ↦
          let is_root : old.number ≡ root = eqb-true old.number root same in
          let before : IsRoot old = stands_root dir old is_root (sound.each n old is).stands in
          stands_from_root (without_those dir goes) (unlinked goes old) is_root
          (record { no_parent = before.no_parent; explicit = before.explicit })
      | inr differ ↦
          let below : old.number ≡ root → ⊥ = eqb-false old.number root differ in
          let not_root : n ≡ root → ⊥ = λ (e : n ≡ root). below (number ∙ e) in
          let before : IsBelowRoot dir old = stands_below dir old below (sound.each n old is).stands in
          let parent_stays : goes old.parent ≡ false = rw (← at) (down.parent_stays n live not_root stays) in
          let old_stays : goes old.number ≡ false = rw number stays in
          let old_live : is_live dir.objects old.number ≡ true = rw number live in
          stands_from_below (without_those dir goes) (unlinked goes old) below (record {
            parent_live = live-stays goes dir.objects old.parent parent_stays before.parent_live;
            placed = record {
              depth = before.placed.depth;
              within = before.placed.within;
              chain = depth_stays dir goes sound.each down before.placed.depth old.number old_live old_stays
                  before.placed.chain;
            };
            inherits = inherits_again dir goes n old sound down is stays not_root before.inherits;
          })
    ]
  where
    number : old.number ≡ n
    number = of_number dir.objects n old is

    at : object_at dir.objects n ≡ old
    at = at-of dir.objects n old is

    live : is_live dir.objects n ≡ true
    live = live-of dir.objects n old is

links_again : (goes : ℕ → Bool) (os : List Object) (numbers : List ℕ)
    → AllByRecursion (λ (n : ℕ). (is_live os n ≡ true) × (goes n ≡ false)) numbers
    → AllByRecursion (λ (n : ℕ). is_live (remaining goes os) n ≡ true) numbers
links_again goes os [] all = tt
links_again goes os (n ∷ ns) all = (live-stays goes os n all.0.1 all.0.0, links_again goes os ns all.1)

name_again : (goes : ℕ → Bool) (os : List Object) (old : Object) → HasOwnName os old → HasOwnName (remaining goes os)
    (unlinked goes old)
name_again goes os old own n other is same_parent same_name =
    let was : IsRemaining goes os n other = remains goes os n other is in
    let parent : was.old.parent ≡ old.parent = ap (λ (x : Object). x.parent) was.is ∙ same_parent in
    let name : folded was.old.name ≡ folded old.name = ap (λ (x : Object). folded x.name) was.is ∙ same_name in
    ap (λ (x : Object). x.number) (sym was.is) ∙ own n was.old was.live parent name

sid_again : (dir : Directory) (goes : ℕ → Bool) (old : Object) → EachIsSound dir → (m : ℕ) → object_of dir.objects m
    ≡ Some old → HasOwnSid dir.schema dir.objects old → HasOwnSid dir.schema (remaining goes dir.objects)
    (unlinked goes old)
sid_again dir goes old each m live own n other sid is has own_sid =
    let was : IsRemaining goes dir.objects n other = remains goes dir.objects n other is in
    let old_has : sid_in dir.schema old ≡ Some sid
    = sym (sid_unlinked dir.schema goes old (each m old live).content.each) ∙ own_sid in
    let was_has : sid_in dir.schema was.old ≡ Some sid
    = sym (sid_unlinked dir.schema goes was.old (each n was.old was.live).content.each)
    ∙ ap (sid_in dir.schema) was.is ∙ has in
    ap (λ (x : Object). x.number) (sym was.is) ∙ own n was.old sid was.live was_has old_has

object_again : (dir : Directory) (goes : ℕ → Bool) (n : ℕ) (old : Object) → IsSound dir → GoesDown dir goes
    → object_of dir.objects n ≡ Some old → goes n ≡ false → IsSoundObject (without_those dir goes) (unlinked goes old)
object_again dir goes n old sound down is stays =
    let before : IsSoundObject dir old = sound.each n old is in
    record {
      content = content_unlinked dir.schema goes old before.content;
      stands = stands_again dir goes n old sound down is stays;
      links = links_again goes dir.objects (links_in (unlinked goes old).values)
          (links_stay (λ (m : ℕ). is_live dir.objects m ≡ true) goes old.values before.links);
      own_name = name_again goes dir.objects old before.own_name;
      own_sid = sid_again dir goes old sound.each n is before.own_sid;
    }

each_again : (dir : Directory) (goes : ℕ → Bool) → IsSound dir → GoesDown dir goes
    → EachIsSound (without_those dir goes)
each_again dir goes sound down n x is =
    let was : IsRemaining goes dir.objects n x = remains goes dir.objects n x is in
    subst (IsSoundObject (without_those dir goes)) was.is
    (object_again dir goes n was.old sound down was.live was.stays)

-- ---- the whole

domain_again : (dir : Directory) (goes : ℕ → Bool) → IsSound dir → GoesDown dir goes
    → domain_sid (without_those dir goes) ≡ domain_sid dir
unfolding domain_sid
domain_again dir goes sound down =
    ap (sid_in dir.schema) (at-stays goes dir.objects root down.root_stays sound.frame.root_live)
    ∙ sid_unlinked dir.schema goes (object_at dir.objects root)
    (sound.each root (object_at dir.objects root) (of-live dir.objects root sound.frame.root_live)).content.each

domain_child_again : (dir : Directory) (goes : ℕ → Bool) (rid : ℕ) → IsSound dir → GoesDown dir goes
    → domain_child (without_those dir goes) rid ≡ domain_child dir rid
unfolding domain_child
domain_child_again dir goes rid sound down
    = ap (λ (domain : Option SidValue). option_and_then (λ (s : SidValue). child_of s rid) domain)
    (domain_again dir goes sound down)

counters_again : (dir : Directory) (goes : ℕ → Bool) → IsSound dir → GoesDown dir goes
    → AreCounters (without_those dir goes)
counters_again dir goes sound down = record {
  number_above = λ n live. sound.frame.counters.number_above n (was_live goes dir.objects n live);
  rid_above = λ n x rid sid is has child.
      let was : IsRemaining goes dir.objects n x = remains goes dir.objects n x is in
      let was_has : sid_in dir.schema was.old ≡ Some sid
      = sym (sid_unlinked dir.schema goes was.old (sound.each n was.old was.live).content.each)
      ∙ ap (sid_in dir.schema) was.is ∙ has in
      sound.frame.counters.rid_above n was.old rid sid was.live was_has
      (sym (domain_child_again dir goes rid sound down) ∙ child);
  number_fits = sound.frame.counters.number_fits;
  rid_fits = sound.frame.counters.rid_fits;
}

limits_again : (dir : Directory) (goes : ℕ → Bool) → AreWithinLimits dir → AreWithinLimits (without_those dir goes)
unfolding weight
limits_again dir goes limits =
    let few = few_remaining goes dir.objects in
    let light = light_remaining dir.schema goes dir.objects in
    let many = limits.objects in
    let heavy = limits.weight in
    record {
      objects = omega (arith, few, many);
      weight = omega (arith, light, heavy);
      suffix = limits.suffix;
      records
          = limits.records;
    }

pub remaining_sound : (dir : Directory) (goes : ℕ → Bool) → IsSound dir → GoesDown dir goes
    → IsSound (without_those dir goes)
remaining_sound dir goes sound down = record {
  rise = rise_remaining goes dir.objects sound.rise;
  frame = record {
    schema = rw (domain_again dir goes sound down) sound.frame.schema;
    counters = counters_again dir goes sound down;
    limits = limits_again dir goes sound.frame.limits;
    root_live = live-stays goes dir.objects root down.root_stays sound.frame.root_live;
  };
  each = each_again dir goes sound down;
  live = live_stays goes dir.objects dir.pending sound.live;
  distinct = distinct_stays goes dir.pending sound.distinct;
}

-- ---- the subtree of an object

not_below_root : (parent : ℕ → ℕ) (levels other : ℕ) → is_below_within parent levels other root ≡ false
unfolding is_below_within
not_below_root parent zero other = refl
not_below_root parent (suc levels) other = refl

below_parts : (parent : ℕ → ℕ) (d other n : ℕ) → (n ≡ root → ⊥) → is_below_within parent (suc d) other n ≡ false
    → (nat_eq (parent n) other ≡ false) × (is_below_within parent d other (parent n) ≡ false)
unfolding is_below_within
below_parts parent d other n not_root none = or_parts (nat_eq (parent n) other)
    (is_below_within parent d other (parent n)) (rw (ne_eqb n root not_root) at none)

parent_not_below : (dir : Directory) (number n : ℕ) → IsPlaced (parents dir) n → (n ≡ root → ⊥)
    → is_below (parents dir) number n ≡ false → (nat_eq (parents dir n) number ≡ false)
    × (is_below (parents dir) number (parents dir n) ≡ false)
unfolding is_below
parent_not_below dir number n placed not_root none = by_depth placed.depth placed.within placed.chain
  where
    by_depth : (depth : ℕ) → depth ≤ max_depth → IsAtDepth (parents dir) depth n
        → (nat_eq (parents dir n) number ≡ false)
        × (is_below_within (parents dir) max_depth number (parents dir n) ≡ false)
    by_depth zero within at = absurd (not_root at)
    by_depth (suc depth) within at =
        let above : depth ≤ max_depth = omega arith in
        let parts = below_parts (parents dir) depth number n not_root
        (sym (below_enough (parents dir) (suc depth) max_depth number n at within) ∙ none) in
        (parts.0, below_enough (parents dir) depth max_depth number (parents dir n) at.1 above ∙ parts.1)

root_below_none : (dir : Directory) (other : ℕ) → is_below (parents dir) other root ≡ false
unfolding is_below
root_below_none dir other = not_below_root (parents dir) max_depth other

pub subtree_goes_down : (dir : Directory) (number : ℕ) → IsSound dir → (number ≡ root → ⊥)
    → GoesDown dir (goes_with dir number)
unfolding goes_with
subtree_goes_down dir number sound not_root = record {
  root_stays = or_from (nat_eq root number) (is_below (parents dir) number root)
      (ne_eqb root number (λ (e : root ≡ number). not_root (sym e))) (root_below_none dir number);
  parent_stays = λ n live below stays.
      let parts = or_parts (nat_eq n number) (is_below (parents dir) number n) stays in
      let above = parent_not_below dir number n (placed_at dir sound.each n live) below parts.1 in
      or_from (nat_eq (parents dir n) number) (is_below (parents dir) number (parents dir n)) above.0 above.1;
}

pub deleted_sound : (dir : Directory) (number : ℕ) → IsSound dir → (number ≡ root → ⊥) → IsSound (deleted dir number)
unfolding deleted
deleted_sound dir number sound not_root = remaining_sound dir (goes_with dir number) sound
    (subtree_goes_down dir number sound not_root)
