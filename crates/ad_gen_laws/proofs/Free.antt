-- Where the parents of the sample's objects stand, and that no name is taken.
use Rattle.std.proofs.Common.{◌≡◌, ◌∙◌, inl, inr, ℕ, zero, suc, ◌+◌, ◌<◌, ◌≤◌, ◌&&◌, Bool, true, false, Some, refl}
use Rattle.std.proofs.Common.{ap, arith, codes}
use Rattle.std.proofs.Common.{List, [], ◌∷◌, ◌++◌}
use Rattle.std.specs.List.{list_any}
use Rattle.std.specs.Str.{bytes_eq, str_to_ascii_uppercase}
use Rattle.std.specs.Prelude.{option_map}
use Rattle.std.proofs.lemmas.Bool.{cases_Bool}
use Rattle.std.proofs.lemmas.Slice.Eq.{bytes_eq-Decides}
use Rattle.std.proofs.lemmas.List.Folds.{list_any-append}
use Rattle.ad_schema_classes.proofs.IndexLemmas.{position_here, position_next}
use Rattle.ad_dn.specs.declared.rdn.Rdn.{Rdn}
use Rattle.ad_dn.specs.Fold.{folded}
use Rattle.ad_dir_model.specs.Names.{same_folded, same_rdn}
use Rattle.ad_load_objects.specs.Drafts.{Draft, same_names, has_name, number_named}
use Rattle.ad_load_objects.specs.Objects.{is_sibling, is_taken, parent_of}
use Rattle.ad_gen_laws.specs.Sample.{root_rdns, system_rdns, unit_name}
use Rattle.ad_gen_laws.specs.Drafts.{unit_draft, unit_drafts, first_drafts, domain_draft, system_draft}
use Rattle.ad_gen_laws.proofs.Differ.{units_differ, words_fold}
use Rattle.ad_gen_laws.proofs.Units.{unit_word}

-- ---- names that differ

pub apart : (v w : List ℕ) → (folded v ≡ folded w → ⊥) → same_folded v w ≡ false
apart v w differ = elim (cases_Bool (same_folded v w)) [
  | inl same ↦ absurd (differ ((bytes_eq-Decides (folded v) (folded w)).0 same))
  | inr other ↦ other
]

pub bytes_same : (v : List ℕ) → bytes_eq v v ≡ true
bytes_same v = (bytes_eq-Decides v v).1 refl

rdn_same : (r : Rdn) → same_rdn r r ≡ true
rdn_same r = rw (bytes_same (folded r.value))
    (ap (λ (b : Bool). b && true) (bytes_same (str_to_ascii_uppercase r.kind)))

pub names_same : (rdns : List Rdn) → same_names rdns rdns ≡ true
unfolding same_names
names_same [] = refl
names_same (r ∷ rdns) = rw (rdn_same r, names_same rdns) refl

pub units_apart : (i k : ℕ) → i < 1000 → k < i → same_folded (unit_name k) (unit_name i) ≡ false
units_apart i k few less = apart (unit_name k) (unit_name i)
    (λ e. let same = units_differ k i (omega (arith, few, less)) few e in omega (arith, less, same))

abbrev pub first_of : List ℕ → ℕ
first_of [] = 0
first_of (b ∷ bytes) = b

system_apart : (i : ℕ) → i < 1000 → same_folded (codes "System") (unit_name i) ≡ false
system_apart i few = apart (codes "System") (unit_name i)
    (λ e. let first : 115 ≡ 111 = ap first_of (words_fold (codes "System") (unit_name i) refl (unit_word i few) e)
    in omega (arith, first))

administrators_apart : (i : ℕ) → i < 1000 → same_folded (codes "Administrators") (unit_name i) ≡ false
administrators_apart i few = apart (codes "Administrators") (unit_name i)
    (λ e. let first : 97 ≡ 111 = ap first_of (words_fold (codes "Administrators") (unit_name i) refl (unit_word i few)
    e) in omega (arith, first))

-- ---- units

no_unit_named : (i k : ℕ) → i < 1000 → k ≤ i → list_any (is_sibling 1 (unit_name i)) (unit_drafts k) ≡ false
unfolding unit_drafts
no_unit_named i zero few least = refl
no_unit_named i (suc k) few least =
    list_any-append (is_sibling 1 (unit_name i)) (unit_drafts k) (unit_draft k ∷ [])
    ∙ rw (no_unit_named i k few (omega (arith, least)), units_apart i k few (omega (arith, least))) refl

pub unit_free : (i : ℕ) → i < 1000 → is_taken (first_drafts ++ unit_drafts i) 1 (unit_name i) ≡ false
unfolding is_taken
unit_free i few = rw (system_apart i few, administrators_apart i few, no_unit_named i i few (omega arith)) refl

-- the root stands first
pub below_root : (more : List Draft) (r : Rdn) → parent_of (domain_draft ∷ more) (r ∷ root_rdns) ≡ Some 1
unfolding parent_of number_named
below_root more r = ap (option_map (λ place. place + 1))
    (position_here (has_name root_rdns) domain_draft more (names_same root_rdns))

pub administrators_free : is_taken (domain_draft ∷ system_draft ∷ []) 1 (codes "Administrators") ≡ false
unfolding is_taken
administrators_free = rw (apart (codes "System") (codes "Administrators")
    (λ e. let first : 115 ≡ 97 = ap first_of (words_fold (codes "System") (codes "Administrators") refl refl e)
    in omega (arith, first))) refl

-- System stands after it
no_root : has_name system_rdns domain_draft ≡ false
unfolding same_names
no_root = refl

pub below_system : (more : List Draft) (r : Rdn) → parent_of (domain_draft ∷ system_draft ∷ more) (r ∷ system_rdns)
    ≡ Some 2
unfolding parent_of number_named
below_system more r = ap (option_map (λ place. place + 1))
    (position_next (has_name system_rdns) domain_draft (system_draft ∷ more) no_root
    ∙ ap (option_map (λ k. suc k)) (position_here (has_name system_rdns) system_draft more (names_same system_rdns)))
