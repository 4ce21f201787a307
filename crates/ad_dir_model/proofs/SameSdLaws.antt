-- The test of equal descriptors tells equal ones.
use Rattle.std.proofs.Common.{◌≡◌, ℕ, Bool, true, false, List, [], ◌∷◌, Option, Some, None, refl, ap, ◌∙◌}
use Rattle.std.specs.Prelude.{nat_eq}
use Rattle.std.specs.Str.{bytes_eq}
use Rattle.std.proofs.lemmas.Bool.{eqb-true, eq-eqb, false≢true, and_parts, and_from}
use Rattle.std.proofs.lemmas.Slice.Eq.{bytes_eq-Decides}
use Rattle.ad_ids.specs.SidValue.{SidValue, same_sid}
use Rattle.ad_ids.specs.declared.guid.Guid.{Guid}
use Rattle.ad_ids.proofs.SidLaws.{same_sid-Decides}
use Rattle.ad_acl.specs.declared.kind.AceKind.{AceKind}
use Rattle.ad_acl.specs.declared.kind.AceKind.TheVariants.{Allow, Deny, Audit}
use Rattle.ad_acl.specs.Entry.{Entry}
use Rattle.ad_sd.specs.declared.parts.AceList.{AceList}
use Rattle.ad_sd.specs.declared.parts.Sd.{Sd}
use Rattle.ad_dir_model.specs.SameSd.{same_kind, same_type, same_mark, same_entry, same_entries, same_list, same_sd}

-- ---- the parts

kind_is : (a b : AceKind) → same_kind a b ≡ true → a ≡ b
kind_is Allow Allow same = refl
kind_is Allow Deny same = absurd (false≢true same)
kind_is Allow Audit same = absurd (false≢true same)
kind_is Deny Allow same = absurd (false≢true same)
kind_is Deny Deny same = refl
kind_is Deny Audit same = absurd (false≢true same)
kind_is Audit Allow same = absurd (false≢true same)
kind_is Audit Deny same = absurd (false≢true same)
kind_is Audit Audit same = refl

kind_same : (a : AceKind) → same_kind a a ≡ true
kind_same Allow = refl
kind_same Deny = refl
kind_same Audit = refl

make_guid : List ℕ → Guid
make_guid bytes = record { bytes = bytes }

guid_is : (a b : Guid) → bytes_eq a.bytes b.bytes ≡ true → a ≡ b
unfolding make_guid
guid_is a b same = ap make_guid ((bytes_eq-Decides a.bytes b.bytes).0 same)

type_is : (a b : Option Guid) → same_type a b ≡ true → a ≡ b
type_is None None same = refl
type_is None (Some b) same = absurd (false≢true same)
type_is (Some a) None same = absurd (false≢true same)
type_is (Some a) (Some b) same = ap (λ (g : Guid). Some g) (guid_is a b same)

type_same : (a : Option Guid) → same_type a a ≡ true
type_same None = refl
type_same (Some a) = (bytes_eq-Decides a.bytes a.bytes).1 refl

mark_is : (a b : Bool) → same_mark a b ≡ true → a ≡ b
mark_is true true same = refl
mark_is true false same = absurd (false≢true same)
mark_is false true same = absurd (false≢true same)
mark_is false false same = refl

mark_same : (a : Bool) → same_mark a a ≡ true
mark_same true = refl
mark_same false = refl

sid_same : (a : SidValue) → same_sid a a ≡ true
sid_same a = (same_sid-Decides a a).1 refl

-- ---- entries

make_entry : AceKind → ℕ → ℕ → Option Guid → Option Guid → SidValue → Entry
make_entry kind flags mask object inherited sid
    = record { kind = kind; flags = flags; mask = mask; object = object; inherited = inherited; sid = sid }

entry_is : (a b : Entry) → same_entry a b ≡ true → a ≡ b
unfolding make_entry
entry_is a b same =
    let first = and_parts (same_kind a.kind b.kind) _ same in
    let second = and_parts (nat_eq a.flags b.flags) _ first.1 in
    let third = and_parts (nat_eq a.mask b.mask) _ second.1 in
    let fourth = and_parts (same_type a.object b.object) _ third.1 in
    let fifth = and_parts (same_type a.inherited b.inherited) _ fourth.1 in
    let kind : a.kind ≡ b.kind = kind_is a.kind b.kind first.0 in
    let flags : a.flags ≡ b.flags = eqb-true a.flags b.flags second.0 in
    let mask : a.mask ≡ b.mask = eqb-true a.mask b.mask third.0 in
    let object : a.object ≡ b.object = type_is a.object b.object fourth.0 in
    let inherited : a.inherited ≡ b.inherited = type_is a.inherited b.inherited fifth.0 in
    let sid : a.sid ≡ b.sid = (same_sid-Decides a.sid b.sid).0 fifth.1 in
    ap (λ (x : AceKind). make_entry x a.flags a.mask a.object a.inherited a.sid) kind
    ∙ ap (λ (x : ℕ). make_entry b.kind x a.mask a.object a.inherited a.sid) flags
    ∙ ap (λ (x : ℕ). make_entry b.kind b.flags x a.object a.inherited a.sid) mask
    ∙ ap (λ (x : Option Guid). make_entry b.kind b.flags b.mask x a.inherited a.sid) object
    ∙ ap (λ (x : Option Guid). make_entry b.kind b.flags b.mask b.object x a.sid) inherited
    ∙ ap (λ (x : SidValue). make_entry b.kind b.flags b.mask b.object b.inherited x) sid

entry_same : (a : Entry) → same_entry a a ≡ true
entry_same a =
    rw (
      kind_same a.kind,
      eq-eqb a.flags a.flags refl,
      eq-eqb a.mask a.mask refl,
      type_same a.object,
      type_same
          a.inherited,
      sid_same a.sid,
    ) refl

entries_are : (xs ys : List Entry) → same_entries xs ys ≡ true → xs ≡ ys
entries_are [] [] same = refl
entries_are [] (b ∷ ys) same = absurd (false≢true same)
entries_are (a ∷ xs) [] same = absurd (false≢true same)
entries_are (a ∷ xs) (b ∷ ys) same =
    let parts = and_parts (same_entry a b) (same_entries xs ys) same in
    ap (λ (x : Entry). x ∷ xs) (entry_is a b parts.0) ∙ ap (λ (zs : List Entry). b ∷ zs) (entries_are xs ys parts.1)

entries_same : (xs : List Entry) → same_entries xs xs ≡ true
entries_same [] = refl
entries_same (a ∷ xs) = and_from (same_entry a a) (same_entries xs xs) (entry_same a) (entries_same xs)

-- ---- descriptors

make_list : Bool → List Entry → AceList
make_list protected entries = record { protected = protected; entries = entries }

list_is : (a b : AceList) → same_list a b ≡ true → a ≡ b
unfolding make_list
list_is a b same =
    let parts = and_parts (same_mark a.protected b.protected) (same_entries a.entries b.entries) same in
    ap (λ (x : Bool). make_list x a.entries) (mark_is a.protected b.protected parts.0)
    ∙ ap (λ (xs : List Entry). make_list b.protected xs) (entries_are a.entries b.entries parts.1)

list_same : (a : AceList) → same_list a a ≡ true
list_same a = and_from (same_mark a.protected a.protected) (same_entries a.entries a.entries) (mark_same a.protected)
    (entries_same a.entries)

make_sd : SidValue → SidValue → AceList → AceList → Sd
make_sd owner group dacl sacl = record { owner = owner; group = group; dacl = dacl; sacl = sacl }

pub same_sd-is : (a b : Sd) → same_sd a b ≡ true → a ≡ b
unfolding same_sd make_sd
same_sd-is a b same =
    let first = and_parts (same_sid a.owner b.owner) _ same in
    let second = and_parts (same_sid a.group b.group) _ first.1 in
    let third = and_parts (same_list a.dacl b.dacl) _ second.1 in
    ap (λ (x : SidValue). make_sd x a.group a.dacl a.sacl) ((same_sid-Decides a.owner b.owner).0 first.0)
    ∙ ap (λ (x : SidValue). make_sd b.owner x a.dacl a.sacl) ((same_sid-Decides a.group b.group).0 second.0)
    ∙ ap (λ (x : AceList). make_sd b.owner b.group x a.sacl) (list_is a.dacl b.dacl third.0)
    ∙ ap (λ (x : AceList). make_sd b.owner b.group b.dacl x) (list_is a.sacl b.sacl third.1)

pub same_sd-refl : (a : Sd) → same_sd a a ≡ true
unfolding same_sd
same_sd-refl a = rw (sid_same a.owner, sid_same a.group, list_same a.dacl, list_same a.sacl) refl
