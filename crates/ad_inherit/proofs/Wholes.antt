-- Laws of wholes: what is explicit of them, a whole over a whole, and descriptors that are their own whole.
use Rattle.std.proofs.Common.{◌≡◌, Bool, true, false, cond, List, [], ◌++◌, ap, ◌∙◌, refl}
use Rattle.std.proofs.lemmas.List.{append-nil}
use Rattle.std.proofs.lemmas.List.Sums.{list_all-from_AllPass}
use Rattle.ad_ids.specs.declared.guid.Guid.{Guid}
use Rattle.ad_ids.specs.SidValue.{SidValue}
use Rattle.ad_acl.specs.Entry.{Entry}
use Rattle.ad_sd.specs.declared.parts.AceList.{AceList}
use Rattle.ad_sd.specs.declared.parts.Sd.{Sd}
use Rattle.ad_inherit.specs.Whole.{is_explicit, explicit_entries, explicit_list, explicit_part, passed, whole_list}
use Rattle.ad_inherit.specs.Whole.{whole}
use Rattle.ad_inherit.specs.Frozen.{IsFrozenList, IsFrozen}
use Rattle.ad_inherit.proofs.Passing.{explicit-append, explicit-explicit, explicit-twice, explicit-passed}

with_entries : Bool → List Entry → AceList
with_entries protected entries = record { protected = protected; entries = entries }

with_lists : SidValue → SidValue → AceList → AceList → Sd
with_lists owner group dacl sacl = record { owner = owner; group = group; dacl = dacl; sacl = sacl }

none_or_passed : (protected : Bool) (entries : List Entry) (class : Guid) (owner group : SidValue)
    → explicit_entries (cond protected [] (passed entries class owner group)) ≡ []
none_or_passed true entries class owner group = refl
none_or_passed false entries class owner group = explicit-passed entries class owner group

explicit_of_list : (parent own : AceList) (class : Guid) (owner group : SidValue)
    → explicit_entries (whole_list parent own class owner group).entries ≡ explicit_entries own.entries
explicit_of_list parent own class owner group =
    let behind : List Entry = cond own.protected [] (passed parent.entries class owner group) in
    explicit-append (explicit_entries own.entries) behind
    ∙ ap (λ (xs : List Entry). explicit_entries (explicit_entries own.entries) ++ xs)
    (none_or_passed own.protected parent.entries class owner group)
    ∙ append-nil (explicit_entries (explicit_entries own.entries))
    ∙ explicit-twice own.entries

pub explicit_part-whole : (parent own : Sd) (class : Guid) → explicit_part (whole parent own class) ≡ explicit_part own
unfolding explicit_part whole with_entries with_lists
explicit_part-whole parent own class =
    ap (λ (xs : List Entry). with_lists own.owner own.group (with_entries own.dacl.protected xs)
    (explicit_list (whole_list parent.sacl own.sacl class own.owner own.group)))
    (explicit_of_list parent.dacl own.dacl class own.owner own.group)
    ∙ ap (λ (xs : List Entry). with_lists own.owner own.group (explicit_list own.dacl)
    (with_entries own.sacl.protected xs)) (explicit_of_list parent.sacl own.sacl class own.owner own.group)

-- a list depends on the explicit entries of its own alone
same_list : (parent own before : AceList) (class : Guid) (owner group : SidValue) → before.protected ≡ own.protected
    → explicit_entries before.entries ≡ explicit_entries own.entries → whole_list parent before class owner group
    ≡ whole_list parent own class owner group
unfolding with_entries
same_list parent own before class owner group marked explicit =
    ap (λ (b : Bool). with_entries b (explicit_entries before.entries
    ++ cond b [] (passed parent.entries class owner group))) marked
    ∙ ap (λ (xs : List Entry). with_entries own.protected
    (xs ++ cond own.protected [] (passed parent.entries class owner group))) explicit

pub whole-whole : (parent before own : Sd) (class class_before : Guid) → whole parent (whole before own class_before)
    class ≡ whole parent own class
unfolding whole with_lists
whole-whole parent before own class class_before =
    let dacl = whole_list before.dacl own.dacl class_before own.owner own.group in
    let sacl = whole_list before.sacl own.sacl class_before own.owner own.group in
    ap (λ (list : AceList). with_lists own.owner own.group list
    (whole_list parent.sacl sacl class own.owner own.group))
    (same_list parent.dacl own.dacl dacl class own.owner own.group refl
    (explicit_of_list before.dacl own.dacl class_before own.owner own.group))
    ∙ ap (λ (list : AceList). with_lists own.owner own.group
    (whole_list parent.dacl own.dacl class own.owner own.group) list)
    (same_list parent.sacl own.sacl sacl class own.owner own.group refl
    (explicit_of_list before.sacl own.sacl class_before own.owner own.group))

frozen_list : (parent list : AceList) (class : Guid) (owner group : SidValue) → IsFrozenList list
    → whole_list parent list class owner group ≡ list
unfolding with_entries
frozen_list parent list class owner group frozen =
    ap (λ (b : Bool). with_entries list.protected
    (explicit_entries list.entries ++ cond b [] (passed parent.entries class owner group))) frozen.protected
    ∙ ap (with_entries list.protected) (append-nil (explicit_entries list.entries) ∙ explicit-explicit list.entries
    (list_all-from_AllPass is_explicit list.entries frozen.explicit))

pub whole-frozen : (parent sd : Sd) (class : Guid) → IsFrozen sd → whole parent sd class ≡ sd
unfolding whole with_lists
whole-frozen parent sd class frozen =
    ap (λ (list : AceList). with_lists sd.owner sd.group list
    (whole_list parent.sacl sd.sacl class sd.owner sd.group))
    (frozen_list parent.dacl sd.dacl class sd.owner sd.group frozen.dacl)
    ∙ ap (λ (list : AceList). with_lists sd.owner sd.group sd.dacl list)
    (frozen_list parent.sacl sd.sacl class sd.owner sd.group frozen.sacl)

-- a descriptor with no inherited entry is its own explicit part
pub explicit_part-frozen : (sd : Sd) → IsFrozen sd → explicit_part sd ≡ sd
unfolding explicit_part with_entries with_lists
explicit_part-frozen sd frozen =
    ap (λ (xs : List Entry). with_lists sd.owner sd.group (with_entries sd.dacl.protected xs) (explicit_list sd.sacl))
    (explicit-explicit sd.dacl.entries (list_all-from_AllPass is_explicit sd.dacl.entries frozen.dacl.explicit))
    ∙ ap (λ (xs : List Entry). with_lists sd.owner sd.group sd.dacl (with_entries sd.sacl.protected xs))
    (explicit-explicit sd.sacl.entries (list_all-from_AllPass is_explicit sd.sacl.entries frozen.sacl.explicit))
