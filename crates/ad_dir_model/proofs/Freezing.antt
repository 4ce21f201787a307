-- A frozen descriptor has no inherited entry and both lists protected, and is frozen already.
use Rattle.std.proofs.Common.{◌≡◌, ℕ, Bool, true, false, not, List, [], ◌∷◌, map, refl, sym, ap, arith, ◌∙◌}
use Rattle.std.specs.Prelude.{bit_and, ◌%◌, ◌==◌}
use Rattle.std.specs.List.{list_all}
use Rattle.std.proofs.lemmas.Nat.{and_assoc, and_mask}
use Rattle.std.proofs.lemmas.List.Sums.{AllPass-from_list_all}
use Rattle.std.proofs.lemmas.Bool.{and_from}
use Rattle.ad_acl.specs.Entry.{Entry}
use Rattle.ad_sd.specs.declared.parts.AceList.{AceList}
use Rattle.ad_sd.specs.declared.parts.Sd.{Sd}
use Rattle.ad_inherit.specs.Whole.{is_explicit}
use Rattle.ad_inherit.specs.Frozen.{IsFrozenList, IsFrozen}
use Rattle.ad_dir_model.specs.Protection.{not_inherited, frozen_entry, frozen_list, frozen}

and_zero : (flags : ℕ) → bit_and flags (bit_and not_inherited 0x10) ≡ 0
and_zero flags =
    let masked : bit_and flags 0 ≡ flags % 1 = and_mask flags 0 in
    let none : flags % 1 ≡ 0 = omega arith in
    masked ∙ none

-- the flag of inherited entries is none of the others
none_left : (flags : ℕ) → bit_and (bit_and flags not_inherited) 0x10 ≡ 0
none_left flags = and_assoc 0x10 flags not_inherited ∙ and_zero flags

entry_explicit : (entry : Entry) → is_explicit (frozen_entry entry) ≡ true
entry_explicit entry = rw (none_left entry.flags) refl

all_explicit : (entries : List Entry) → list_all is_explicit (map frozen_entry entries) ≡ true
all_explicit [] = refl
all_explicit (e ∷ es) = and_from (is_explicit (frozen_entry e)) (list_all is_explicit (map frozen_entry es))
    (entry_explicit e) (all_explicit es)

list_frozen : (list : AceList) → IsFrozenList (frozen_list list)
list_frozen list = record {
  protected = refl;
  explicit = AllPass-from_list_all is_explicit
      (map frozen_entry list.entries) (all_explicit list.entries);
}

pub frozen_is : (sd : Sd) → IsFrozen (frozen sd)
unfolding frozen
frozen_is sd = record { dacl = list_frozen sd.dacl; sacl = list_frozen sd.sacl }

-- ---- once is enough

with_flags : Entry → ℕ → Entry
with_flags entry flags = record entry { flags = flags }

entry_twice : (entry : Entry) → frozen_entry (frozen_entry entry) ≡ frozen_entry entry
unfolding with_flags
entry_twice entry = ap (with_flags entry) (and_assoc not_inherited entry.flags not_inherited)

entries_twice : (entries : List Entry) → map frozen_entry (map frozen_entry entries) ≡ map frozen_entry entries
entries_twice [] = refl
entries_twice (e ∷ es) = ap (λ (x : Entry). x ∷ map frozen_entry (map frozen_entry es)) (entry_twice e)
    ∙ ap (λ (xs : List Entry). frozen_entry e ∷ xs) (entries_twice es)

with_entries : List Entry → AceList
with_entries entries = record { protected = true; entries = entries }

list_twice : (list : AceList) → frozen_list (frozen_list list) ≡ frozen_list list
unfolding with_entries
list_twice list = ap with_entries (entries_twice list.entries)

with_lists : Sd → AceList → AceList → Sd
with_lists sd dacl sacl = record sd { dacl = dacl; sacl = sacl }

pub frozen_twice : (sd : Sd) → frozen (frozen sd) ≡ frozen sd
unfolding frozen with_lists
frozen_twice sd =
    ap (λ (list : AceList). with_lists sd list (frozen_list (frozen_list sd.sacl))) (list_twice sd.dacl)
    ∙ ap (λ (list : AceList). with_lists sd (frozen_list sd.dacl) list) (list_twice sd.sacl)
