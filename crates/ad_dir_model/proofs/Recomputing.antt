-- Inheritance recomputed from the root makes a directory sound.
use Rattle.std.proofs.Common.{◌≡◌, ℕ, zero, suc, ◌+◌, ◌<◌, ◌≤◌, true, List, [], ◌∷◌, map, Option, Some, None, inl}
use Rattle.std.proofs.Common.{inr, refl, sym, subst, ap, arith, ◌∙◌}
use Rattle.std.specs.Prelude.{nat_eq, if◌then◌else◌, is_some}
use Rattle.std.specs.Option.{option_map, option_and_then}
use Rattle.std.proofs.lemmas.Bool.{eqb-true, eqb-false, ne_eqb, eq-eqb, cases_Bool}
use Rattle.std.proofs.lemmas.Option.{none-some, same_Some}
use Rattle.std.proofs.lemmas.List.{length-map}
use Rattle.ad_ids.specs.SidValue.{SidValue}
use Rattle.ad_ids.specs.SidChild.{child_of}
use Rattle.ad_dn.specs.Fold.{folded}
use Rattle.ad_sd.specs.declared.parts.Sd.{Sd}
use Rattle.ad_inherit.specs.Whole.{explicit_part, whole}
use Rattle.ad_inherit.proofs.Wholes.{explicit_part-whole, whole-whole}
use Rattle.ad_schema.specs.declared.line.SchemaRecord.{SchemaRecord}
use Rattle.ad_dir_model.specs.Limits.{max_depth}
use Rattle.ad_dir_model.specs.Object.{Object, links_in}
use Rattle.ad_dir_model.specs.Objects.{RiseAbove, object_of, is_live, object_at, sd_at, parent_at}
use Rattle.ad_dir_model.specs.Tree.{root, IsAtDepth, IsPlaced}
use Rattle.ad_dir_model.specs.Identity.{sid_in, domain_sid, domain_child}
use Rattle.ad_dir_model.specs.Directory.{Directory, parents}
use Rattle.ad_dir_model.specs.Inheritance.{guid_at, scratch_within, scratch, IsSettled}
use Rattle.ad_dir_model.specs.Loading.{from_root, recomputed}
use Rattle.ad_dir_model.specs.Weight.{object_weight, objects_weight, weight}
use Rattle.ad_dir_model.specs.Soundness.{Stands, IsSoundObject, HasOwnName, HasOwnSid, AreCounters, AreWithinLimits}
use Rattle.ad_dir_model.specs.Soundness.{IsSound}
use Rattle.ad_dir_model.specs.Conditions.{IsRead, IsAllRead}
use Rattle.ad_dir_model.proofs.Finding.{of_number, at-of, of-live, at_number, at-not_live}
use Rattle.ad_dir_model.proofs.Inheriting.{explicit-explicit, whole_below}
use Rattle.ad_dir_model.proofs.Placing.{all_live_more}
use Rattle.ad_dir_model.proofs.Standing.{stands_from_root, stands_from_below}
use Rattle.ad_dir_model.proofs.StepSound.{sid_with_sd}

-- ---- what is found

all : Directory → List Object
all dir = map (from_root dir) dir.objects

of-map : (dir : Directory) (os : List Object) (n : ℕ) → object_of (map (from_root dir) os) n
    ≡ option_map (from_root dir) (object_of os n)
unfolding object_of
of-map dir [] n = refl
of-map dir (x ∷ xs) n =
    elim (cases_Bool (nat_eq x.number n)) [
      | inl same ↦ rw same refl
      | inr differ ↦ rw differ (of-map dir xs n)
    ]

some_mapped : (dir : Directory) (found : Option Object) → is_some (option_map (from_root dir) found) ≡ is_some found
some_mapped dir None = refl
some_mapped dir (Some x) = refl

live-map : (dir : Directory) (n : ℕ) → is_live (map (from_root dir) dir.objects) n ≡ is_live dir.objects n
live-map dir n = ap is_some (of-map dir dir.objects n) ∙ some_mapped dir (object_of dir.objects n)

at-map : (dir : Directory) (n : ℕ) → is_live dir.objects n ≡ true → object_at (map (from_root dir) dir.objects) n
    ≡ from_root dir (object_at dir.objects n)
at-map dir n live = at-of (map (from_root dir) dir.objects) n (from_root dir (object_at dir.objects n))
    (of-map dir dir.objects n ∙ ap (option_map (from_root dir)) (of-live dir.objects n live))

from_map : (dir : Directory) (found : Option Object) (x : Object) → option_map (from_root dir) found ≡ Some x
    → (old : Object) × (found ≡ Some old) × (from_root dir old ≡ x)
from_map dir None x is = absurd (none-some x is)
from_map dir (Some old) x is = (old, refl, same_Some (from_root dir old) x is)

was : (dir : Directory) (n : ℕ) (x : Object) → object_of (map (from_root dir) dir.objects) n ≡ Some x → (old : Object)
    × (object_of dir.objects n ≡ Some old) × (from_root dir old ≡ x)
was dir n x is = from_map dir (object_of dir.objects n) x (sym (of-map dir dir.objects n) ∙ is)

parent_map : (dir : Directory) (n : ℕ) → parent_at (map (from_root dir) dir.objects) n ≡ parents dir n
parent_map dir n =
    elim (cases_Bool (is_live dir.objects n)) [
      | inl live ↦ ap (λ (x : Object). x.parent) (at-map dir n live)
      | inr not_live ↦ ap (λ (x : Object). x.parent)
          (at-not_live (map (from_root dir) dir.objects) n (live-map dir n ∙ not_live)
          ∙ sym (at-not_live dir.objects n not_live))
    ]

parents_map : (dir : Directory) → parent_at (map (from_root dir) dir.objects) ≡ parents dir
parents_map dir = λ i n. parent_map dir n i

rise_map : (dir : Directory) (m : ℕ) (os : List Object) → RiseAbove m os → RiseAbove m (map (from_root dir) os)
rise_map dir m [] rise = tt
rise_map dir m (x ∷ xs) rise = (rise.0, rise_map dir x.number xs rise.1)

-- ---- descriptors from the root

scratch_root : (dir : Directory) → scratch dir root ≡ explicit_part (sd_at dir.objects root)
unfolding scratch scratch_within
scratch_root dir = refl

-- more levels than the depth change nothing
scratch_enough : (dir : Directory) (d levels n : ℕ) → IsAtDepth (parents dir) d n → d < levels
    → scratch_within dir levels n ≡ scratch_within dir (suc d) n
unfolding scratch_within
scratch_enough dir zero zero n at less = absurd (omega arith)
scratch_enough dir zero (suc levels) n at less = rw (eq-eqb n root at) refl
scratch_enough dir (suc d) zero n at less = absurd (omega arith)
scratch_enough dir (suc d) (suc levels) n at less =
    let below : d < levels = omega arith in
    ap (λ (above : Sd). if nat_eq n root then explicit_part (sd_at dir.objects n)
    else whole above (explicit_part (sd_at dir.objects n)) (guid_at dir.schema (object_at dir.objects n).class))
    (scratch_enough dir d levels (parents dir n) at.1 below)

scratch_more : (dir : Directory) (levels n : ℕ) → (n ≡ root → ⊥) → scratch_within dir (suc levels) n
    ≡ whole (scratch_within dir levels (parents dir n)) (explicit_part (sd_at dir.objects n))
    (guid_at dir.schema (object_at dir.objects n).class)
unfolding scratch_within
scratch_more dir levels n not_root = rw (ne_eqb n root not_root) refl

-- each is the whole of the one above
pub scratch_below : (dir : Directory) (n : ℕ) → (n ≡ root → ⊥) → IsPlaced (parents dir) n
    → scratch dir n ≡ whole (scratch dir (parents dir n)) (explicit_part (sd_at dir.objects n))
    (guid_at dir.schema (object_at dir.objects n).class)
unfolding scratch
scratch_below dir n not_root placed = by_depth placed.depth placed.within placed.chain
  where
    by_depth : (depth : ℕ) → depth ≤ max_depth → IsAtDepth (parents dir) depth n
        → scratch_within dir (suc max_depth) n ≡ whole (scratch_within dir (suc max_depth) (parents dir n))
        (explicit_part (sd_at dir.objects n)) (guid_at dir.schema (object_at dir.objects n).class)
    by_depth zero within at = absurd (not_root at)
    by_depth (suc depth) within at =
        let few : depth < max_depth = omega arith in
        let more : depth < suc max_depth = omega arith in
        scratch_more dir max_depth n not_root
        ∙ ap (λ (above : Sd). whole above (explicit_part (sd_at dir.objects n))
        (guid_at dir.schema (object_at dir.objects n).class))
        (scratch_enough dir depth max_depth (parents dir n) at.1 few
        ∙ sym (scratch_enough dir depth (suc max_depth) (parents dir n) at.1 more))

-- ---- one object

settled_map : (dir : Directory) (n : ℕ) (old : Object) → IsAllRead dir → object_of dir.objects n ≡ Some old
    → (n ≡ root → ⊥) → IsSettled (recomputed dir) (from_root dir old)
unfolding recomputed
settled_map dir n old read is not_root =
    ap (scratch dir) number ∙ scratch_below dir n not_root placed
    ∙ ap (λ (x : Object). whole (scratch dir x.parent) (explicit_part x.sd) (guid_at dir.schema x.class)) at
    ∙ ap (λ (sd : Sd). whole sd (explicit_part old.sd) (guid_at dir.schema old.class)) (sym above)
    ∙ sym (whole-whole (sd_at (map (from_root dir) dir.objects) old.parent) (scratch dir old.parent)
    (explicit_part old.sd) (guid_at dir.schema old.class) (guid_at dir.schema old.class))
    ∙ ap (λ (sd : Sd). whole (sd_at (map (from_root dir) dir.objects) old.parent) sd (guid_at dir.schema old.class))
    (sym own)
    ∙ sym (whole_below (recomputed dir) (from_root dir old) below)
  where
    number : old.number ≡ n
    number = of_number dir.objects n old is

    below : old.number ≡ root → ⊥
    below e = not_root (sym number ∙ e)

    at : object_at dir.objects n ≡ old
    at = at-of dir.objects n old is

    placed : IsPlaced (parents dir) n
    placed = subst (IsPlaced (parents dir)) number ((read.each n old is).placed below)

    parent_live : is_live dir.objects old.parent ≡ true
    parent_live = (read.each n old is).parent_live below

    above : sd_at (map (from_root dir) dir.objects) old.parent ≡ scratch dir old.parent
    above = ap (λ (x : Object). x.sd) (at-map dir old.parent parent_live)
        ∙ ap (scratch dir) (at_number dir.objects old.parent parent_live)

    own : scratch dir old.number ≡ whole (scratch dir old.parent) (explicit_part old.sd) (guid_at dir.schema old.class)
    own = ap (scratch dir) number ∙ scratch_below dir n not_root placed
        ∙ ap (λ (x : Object). whole (scratch dir x.parent) (explicit_part x.sd) (guid_at dir.schema x.class)) at

stands_map : (dir : Directory) (n : ℕ) (old : Object) → IsAllRead dir → object_of dir.objects n ≡ Some old
    → Stands (recomputed dir) (from_root dir old)
unfolding recomputed
stands_map dir n old read is =
    elim (cases_Bool (nat_eq old.number root)) [
      | inl same ↦
          let is_root : old.number ≡ root = eqb-true old.number root same in
          stands_from_root (recomputed dir) (from_root dir old) is_root (record {
            no_parent = (read.each n old is).no_parent is_root;
            explicit = ap (λ (k : ℕ). explicit_part (scratch dir k)) is_root ∙ ap explicit_part (scratch_root dir)
                ∙ explicit-explicit (sd_at dir.objects root) ∙ sym (scratch_root dir)
                ∙ ap (scratch dir) (sym is_root);
          })
      | inr differ ↦
          let below : old.number ≡ root → ⊥ = eqb-false old.number root differ in
          let not_root : n ≡ root → ⊥ = λ (e : n ≡ root). below (of_number dir.objects n old is ∙ e) in
          stands_from_below (recomputed dir) (from_root dir old) below (record {
            parent_live = live-map dir old.parent ∙ (read.each n old is).parent_live below;
            placed = subst (λ (parent : ℕ → ℕ). IsPlaced parent old.number) (sym (parents_map dir))
                ((read.each n old is).placed below);
            inherits = inl (settled_map dir n old read is not_root);
          })
    ]

name_map : (dir : Directory) (old : Object) → HasOwnName dir.objects old
    → HasOwnName (map (from_root dir) dir.objects) (from_root dir old)
name_map dir old own n other is same_parent same_name =
    let before = was dir n other is in
    let parent : before.0.parent ≡ old.parent = ap (λ (x : Object). x.parent) before.2 ∙ same_parent in
    let name : folded before.0.name ≡ folded old.name = ap (λ (x : Object). folded x.name) before.2 ∙ same_name in
    ap (λ (x : Object). x.number) (sym before.2) ∙ own n before.0 before.1 parent name

sid_map : (dir : Directory) (old : Object) → HasOwnSid dir.schema dir.objects old
    → HasOwnSid dir.schema (map (from_root dir) dir.objects) (from_root dir old)
sid_map dir old own n other sid is has own_sid =
    let before = was dir n other is in
    let old_has : sid_in dir.schema old ≡ Some sid = sym (sid_with_sd dir.schema old (scratch dir old.number))
    ∙ own_sid in
    let other_has : sid_in dir.schema before.0 ≡ Some sid
    = sym (sid_with_sd dir.schema before.0 (scratch dir before.0.number)) ∙ ap (sid_in dir.schema) before.2 ∙ has
    in
    ap (λ (x : Object). x.number) (sym before.2) ∙ own n before.0 sid before.1 other_has old_has

object_map : (dir : Directory) (n : ℕ) (old : Object) → IsAllRead dir → object_of dir.objects n ≡ Some old
    → IsSoundObject (recomputed dir) (from_root dir old)
unfolding recomputed
object_map dir n old read is =
    let before : IsRead dir old = read.each n old is in
    record {
      content = record {
        class_of_schema = before.content.class_of_schema;
        name = before.content.name;
        attrs_rise
            = before.content.attrs_rise;
        each = before.content.each;
      };
      stands = stands_map dir n old read is;
      links = all_live_more dir.objects (map (from_root dir) dir.objects) (links_in old.values)
          (λ m live. live-map dir m ∙ live) before.links;
      own_name = name_map dir old before.own_name;
      own_sid = sid_map dir old before.own_sid;
    }

-- ---- the whole

domain_map : (dir : Directory) → IsAllRead dir → domain_sid (recomputed dir) ≡ domain_sid dir
unfolding domain_sid recomputed
domain_map dir read = ap (sid_in dir.schema) (at-map dir root read.frame.root_live)
    ∙ sid_with_sd dir.schema (object_at dir.objects root) (scratch dir (object_at dir.objects root).number)

domain_child_map : (dir : Directory) (rid : ℕ) → IsAllRead dir → domain_child (recomputed dir) rid
    ≡ domain_child dir rid
unfolding domain_child
domain_child_map dir rid read = ap (λ (domain : Option SidValue). option_and_then (λ (s : SidValue). child_of s rid)
    domain) (domain_map dir read)

counters_map : (dir : Directory) → IsAllRead dir → AreCounters (recomputed dir)
unfolding recomputed
counters_map dir read = record {
  number_above = λ n live. read.frame.counters.number_above n (sym (live-map dir n) ∙ live);
  rid_above = λ n x rid sid is has child.
      let before = was dir n x is in
      let had : sid_in dir.schema before.0 ≡ Some sid
      = sym (sid_with_sd dir.schema before.0 (scratch dir before.0.number)) ∙ ap (sid_in dir.schema) before.2
      ∙ has in
      read.frame.counters.rid_above n before.0 rid sid before.1 had (sym (domain_child_map dir rid read) ∙ child);
  number_fits = read.frame.counters.number_fits;
  rid_fits = read.frame.counters.rid_fits;
}

weight_map : (dir : Directory) (schema : List SchemaRecord) (os : List Object)
    → objects_weight schema (map (from_root dir) os) ≡ objects_weight schema os
unfolding objects_weight object_weight
weight_map dir schema [] = refl
weight_map dir schema (x ∷ xs) = ap (λ (rest : ℕ). object_weight schema x + rest) (weight_map dir schema xs)

limits_map : (dir : Directory) → AreWithinLimits dir → AreWithinLimits (recomputed dir)
unfolding weight recomputed
limits_map dir limits = record {
  objects = rw (length-map dir.objects (from_root dir)) limits.objects;
  weight = rw (weight_map dir dir.schema dir.objects) limits.weight;
  suffix = limits.suffix;
  records = limits.records;
}

pub recomputed_sound : (dir : Directory) → IsAllRead dir → IsSound (recomputed dir)
unfolding recomputed
recomputed_sound dir read = record {
  rise = rise_map dir 0 dir.objects read.rise;
  frame = record {
    schema = rw (domain_map dir read) read.frame.schema;
    counters = counters_map dir read;
    limits = limits_map dir read.frame.limits;
    root_live = live-map dir root ∙ read.frame.root_live;
  };
  each = λ n x is. let before = was dir n x is in subst (IsSoundObject (recomputed dir)) before.2
      (object_map dir n before.0 read before.1);
  live = tt;
  distinct = tt;
}

pub recomputed_empty : (dir : Directory) → (recomputed dir).pending ≡ []
unfolding recomputed
recomputed_empty dir = refl

-- what is explicit stays
pub recomputed_explicit : (dir : Directory) (n : ℕ) → IsAllRead dir → is_live dir.objects n ≡ true
    → explicit_part (sd_at (recomputed dir).objects n) ≡ explicit_part (sd_at dir.objects n)
unfolding recomputed
recomputed_explicit dir n read live =
    ap (λ (x : Object). explicit_part x.sd) (at-map dir n live) ∙ ap (λ (k : ℕ). explicit_part (scratch dir k)) number
    ∙ own
  where
    number : (object_at dir.objects n).number ≡ n
    number = at_number dir.objects n live

    own : explicit_part (scratch dir n) ≡ explicit_part (sd_at dir.objects n)
    own =
        elim (cases_Bool (nat_eq n root)) [
          | inl same ↦
              let is_root : n ≡ root = eqb-true n root same in
              rw is_root (ap explicit_part (scratch_root dir) ∙ explicit-explicit (sd_at dir.objects root))
          | inr differ ↦
              let not_root : n ≡ root → ⊥ = eqb-false n root differ in
              let below : (object_at dir.objects n).number ≡ root → ⊥
              = λ (e : (object_at dir.objects n).number ≡ root). not_root (sym number ∙ e) in
              ap explicit_part (scratch_below dir n not_root
              (subst (IsPlaced (parents dir)) number
              ((read.each n (object_at dir.objects n) (of-live dir.objects n live)).placed below)))
              ∙ explicit_part-whole (scratch dir (parents dir n)) (explicit_part (sd_at dir.objects n))
              (guid_at dir.schema (object_at dir.objects n).class)
              ∙ explicit-explicit (sd_at dir.objects n)
        ]
