-- An empty pending list: each descriptor is the one from the root.
use Rattle.std.proofs.Common.{◌≡◌, ℕ, zero, suc, ◌<◌, ◌≤◌, Bool, true, List, [], ◌++◌, inl, inr, sym, subst, ap}
use Rattle.std.proofs.Common.{arith, ◌∙◌}
use Rattle.std.specs.Prelude.{nat_eq, if◌then◌else◌}
use Rattle.std.proofs.lemmas.Bool.{ne_eqb, eq-eqb, eqb-true, eqb-false, both_ways, cases_Bool}
use Rattle.ad_ids.specs.declared.guid.Guid.{Guid}
use Rattle.ad_sd.specs.declared.parts.AceList.{AceList}
use Rattle.ad_sd.specs.declared.parts.Sd.{Sd}
use Rattle.ad_acl.specs.Entry.{Entry}
use Rattle.ad_ids.specs.SidValue.{SidValue}
use Rattle.ad_inherit.specs.Whole.{explicit_list, explicit_part, passed, whole_list, whole}
use Rattle.ad_inherit.proofs.Passing.{explicit-twice}
use Rattle.ad_dir_model.specs.Limits.{max_depth}
use Rattle.ad_dir_model.specs.Object.{Object}
use Rattle.ad_dir_model.specs.Objects.{is_live, object_at, sd_at}
use Rattle.ad_dir_model.specs.Tree.{root, IsAtDepth}
use Rattle.ad_dir_model.specs.Directory.{Directory, parents}
use Rattle.ad_dir_model.specs.Inheritance.{guid_at, scratch_within, scratch, covers}
use Rattle.ad_dir_model.specs.Soundness.{IsRoot, IsBelowRoot, Stands, IsSoundObject, EachIsSound, IsSound}
use Rattle.ad_dir_model.proofs.Finding.{of-live, at_number}
use Rattle.ad_dir_model.proofs.PendingLaws.{nothing_covered}
use Rattle.ad_dir_model.proofs.Inheriting.{whole_below}

-- ---- a whole looks at the explicit part of the own descriptor alone

with_entries : Bool → List Entry → AceList
with_entries protected entries = record { protected = protected; entries = entries }

list_of_explicit : (parent own : AceList) (class : Guid) (owner group : SidValue)
    → whole_list parent (explicit_list own) class owner group ≡ whole_list parent own class owner group
unfolding with_entries
list_of_explicit parent own class owner group =
    ap (λ (entries : List Entry). with_entries own.protected
    (entries ++ (if own.protected then [] else passed parent.entries class owner group)))
    (explicit-twice own.entries)

with_lists : Sd → AceList → AceList → Sd
with_lists sd dacl sacl = record sd { dacl = dacl; sacl = sacl }

pub whole_of_explicit : (parent own : Sd) (class : Guid) → whole parent (explicit_part own) class
    ≡ whole parent own class
unfolding whole explicit_part with_lists
whole_of_explicit parent own class =
    ap (λ (list : AceList). with_lists own list
    (whole_list parent.sacl (explicit_list own.sacl) class own.owner own.group))
    (list_of_explicit parent.dacl own.dacl class own.owner own.group)
    ∙ ap (λ (list : AceList). with_lists own (whole_list parent.dacl own.dacl class own.owner own.group) list)
    (list_of_explicit parent.sacl own.sacl class own.owner own.group)

-- ---- all are settled

-- the root has no inherited entry, and each other live object is settled and has a live parent
pub record AllSettled (dir : Directory) : Type 0 where
  pub at_root : explicit_part (sd_at dir.objects root) ≡ sd_at dir.objects root
  pub below : (n : ℕ) → is_live dir.objects n ≡ true → (n ≡ root → ⊥) → sd_at dir.objects n
      ≡ whole (sd_at dir.objects (parents dir n)) (sd_at dir.objects n)
      (guid_at dir.schema (object_at dir.objects n).class)
  pub parent_live : (n : ℕ) → is_live dir.objects n ≡ true → (n ≡ root → ⊥) → is_live dir.objects (parents dir n) ≡ true

pub from_the_root : (dir : Directory) → AllSettled dir → (d levels n : ℕ) → IsAtDepth (parents dir) d n → d < levels
    → is_live dir.objects n ≡ true → sd_at dir.objects n ≡ scratch_within dir levels n
unfolding scratch_within
from_the_root dir all zero zero n at less live = absurd (omega arith)
from_the_root dir all zero (suc levels) n at less live =
    rw (eq-eqb n root at) (subst (λ (k : ℕ). sd_at dir.objects k ≡ explicit_part (sd_at dir.objects k)) (sym at)
    (sym all.at_root))
from_the_root dir all (suc d) zero n at less live = absurd (omega arith)
from_the_root dir all (suc d) (suc levels) n at less live =
    let below : d < levels = omega arith in
    let above : sd_at dir.objects (parents dir n) ≡ scratch_within dir levels (parents dir n)
    = from_the_root dir all d levels (parents dir n) at.1 below (all.parent_live n live at.0) in
    let class : Guid = guid_at dir.schema (object_at dir.objects n).class in
    rw (ne_eqb n root at.0)
    (all.below n live at.0
    ∙ ap (λ (sd : Sd). whole sd (sd_at dir.objects n) (guid_at dir.schema (object_at dir.objects n).class)) above
    ∙ sym (whole_of_explicit (scratch_within dir levels (parents dir n)) (sd_at dir.objects n)
    (guid_at dir.schema (object_at dir.objects n).class)))

-- ---- in a sound directory

pub stands_root : (dir : Directory) (o : Object) → o.number ≡ root → Stands dir o → IsRoot o
stands_root dir o is_root stands = rw (eq-eqb o.number root is_root) at stands

pub stands_below : (dir : Directory) (o : Object) → (o.number ≡ root → ⊥) → Stands dir o → IsBelowRoot dir o
stands_below dir o not_root stands = rw (ne_eqb o.number root not_root) at stands

-- the object of a live number, and what is asked of it
pub sound_at : (dir : Directory) → EachIsSound dir → (n : ℕ) → is_live dir.objects n ≡ true
    → IsSoundObject dir (object_at dir.objects n)
sound_at dir each n live = each n (object_at dir.objects n) (of-live dir.objects n live)

pub below_at : (dir : Directory) → EachIsSound dir → (n : ℕ) → is_live dir.objects n ≡ true → (n ≡ root → ⊥)
    → IsBelowRoot dir (object_at dir.objects n)
below_at dir each n live not_root =
    stands_below dir (object_at dir.objects n)
    (λ (e : (object_at dir.objects n).number ≡ root). not_root (sym (at_number dir.objects n live) ∙ e))
    (sound_at dir each n live).stands

pub root_at : (dir : Directory) → IsSound dir → IsRoot (object_at dir.objects root)
root_at dir sound = stands_root dir (object_at dir.objects root) (at_number dir.objects root sound.frame.root_live)
    (sound_at dir sound.each root sound.frame.root_live).stands

all_settled : (dir : Directory) → IsSound dir → dir.pending ≡ [] → AllSettled dir
all_settled dir sound empty = record {
  at_root = (root_at dir sound).explicit;
  below = λ n live not_root.
      let o = object_at dir.objects n in
      let number : (object_at dir.objects n).number ≡ n = at_number dir.objects n live in
      elim (below_at dir sound.each n live not_root).inherits [
        | inl settled ↦ settled ∙ whole_below dir (object_at dir.objects n)
            (λ (e : (object_at dir.objects n).number ≡ root). not_root (sym number ∙ e))
        | inr covered ↦ absurd (both_ways
            (covers dir.pending (object_at dir.objects n).parent (object_at dir.objects n).number)
            (nothing_covered dir.pending (object_at dir.objects n).parent (object_at dir.objects n).number empty)
            covered)
      ];
  parent_live = λ n live not_root. (below_at dir sound.each n live not_root).parent_live;
}

pub settled_scratch : (dir : Directory) → IsSound dir → dir.pending ≡ [] → (n : ℕ) → is_live dir.objects n ≡ true
    → sd_at dir.objects n ≡ scratch dir n
unfolding scratch
settled_scratch dir sound empty n live =
    elim (cases_Bool (nat_eq n root)) [
      | inl same ↦ from_the_root dir (all_settled dir sound empty) 0 (suc max_depth) n (eqb-true n root same)
          (omega arith) live
      | inr differ ↦
          let not_root : n ≡ root → ⊥ = eqb-false n root differ in
          let number : (object_at dir.objects n).number ≡ n = at_number dir.objects n live in
          let placed = (below_at dir sound.each n live not_root).placed in
          let within : placed.depth ≤ max_depth = placed.within in
          from_the_root dir (all_settled dir sound empty) placed.depth (suc max_depth) n
          (subst (IsAtDepth (parents dir) placed.depth) number placed.chain) (omega arith) live
    ]
