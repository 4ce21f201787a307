-- The text of an entry, and that of a list, encode them.
use Rattle.std.proofs.Common.{Bool, true, false, ◌≡◌, inl, ℕ, List, [], ◌∷◌, ◌++◌, Option, Some, None, if◌then◌else◌}
use Rattle.std.proofs.Common.{codes, refl, ap, ◌∙◌}
use Rattle.std.specs.List.{flat_map, AllByRecursion}
use Rattle.std.specs.Str.{str_to_ascii_lowercase}
use Rattle.ad_bytes.specs.Reading.{SpellsEach}
use Rattle.ad_ids.specs.declared.guid.Guid.{Guid}
use Rattle.ad_ids.specs.SidText.{sid_text}
use Rattle.ad_ids.specs.SidValue.{SidValue}
use Rattle.ad_acl.specs.Entry.{Entry}
use Rattle.ad_acl.specs.Writing.{has_guid, IsGuidIf, IsEntry}
use Rattle.ad_sd.specs.declared.parts.AceList.{AceList}
use Rattle.ad_acl.specs.Codes.{flag_codes}
use Rattle.ad_sddl.specs.Grammar.{entry_of, type_text, SpellsGuidIf, SpellsEntry, SpellsListFlags, SpellsList}
use Rattle.ad_sddl.specs.Canonical.{codes_text, rights_text, guid_text_if, entry_text, list_text}
use Rattle.ad_sddl.proofs.CanonicalLower.{lower_append}
use Rattle.ad_sddl.proofs.CanonicalSids.{sid_spelled}
use Rattle.ad_sddl.proofs.CanonicalGuids.{guid_spelled}
use Rattle.ad_sddl.proofs.CanonicalMasks.{flags_spelled, rights_spelled}

-- ---- an entry

field_lower : (field rest others : List ℕ) → str_to_ascii_lowercase rest ≡ others
    → str_to_ascii_lowercase (field ++ 59 ∷ rest) ≡ str_to_ascii_lowercase field ++ 59 ∷ others
field_lower field rest others e = lower_append field (59 ∷ rest)
    ∙ ap (λ (t : List ℕ). str_to_ascii_lowercase field ++ 59 ∷ t) e

entry_lower : (kind flags rights object inherited sid : List ℕ)
    → str_to_ascii_lowercase (entry_of kind flags rights object inherited sid)
    ≡ entry_of (str_to_ascii_lowercase kind) (str_to_ascii_lowercase flags) (str_to_ascii_lowercase rights)
    (str_to_ascii_lowercase object) (str_to_ascii_lowercase inherited) (str_to_ascii_lowercase sid)
entry_lower kind flags rights object inherited sid =
    ap (λ (t : List ℕ). 40 ∷ t) (field_lower kind _ _
    (field_lower flags _ _ (field_lower rights _ _
    (field_lower object _ _ (field_lower inherited _ _ (lower_append sid (codes ")")))))))

object_spelled : (object inherited : Option Guid) → IsGuidIf object → SpellsGuidIf (has_guid object inherited) object
    (str_to_ascii_lowercase (guid_text_if object))
object_spelled None None is = refl
object_spelled None (Some g) is = refl
object_spelled (Some g) None is = guid_spelled g is
object_spelled (Some g) (Some h) is = guid_spelled g is

inherited_spelled : (object inherited : Option Guid) → IsGuidIf inherited → SpellsGuidIf (has_guid object inherited)
    inherited (str_to_ascii_lowercase (guid_text_if inherited))
inherited_spelled None None is = refl
inherited_spelled (Some g) None is = refl
inherited_spelled None (Some h) is = guid_spelled h is
inherited_spelled (Some g) (Some h) is = guid_spelled h is

pub entry_spelled : (domain : Option SidValue) (e : Entry) → IsEntry e
    → SpellsEntry domain e (str_to_ascii_lowercase (entry_text e))
entry_spelled domain e is = record {
  is_object = has_guid e.object e.inherited;
  flags = str_to_ascii_lowercase (codes_text flag_codes e.flags);
  rights = str_to_ascii_lowercase (rights_text e.mask);
  object = str_to_ascii_lowercase (guid_text_if e.object);
  inherited = str_to_ascii_lowercase (guid_text_if e.inherited);
  sid = str_to_ascii_lowercase (sid_text e.sid);
  flags_are = flags_spelled e.flags is.flags is.clear;
  rights_are = rights_spelled e.mask is.mask;
  object_is = object_spelled e.object e.inherited is.object;
  inherited_is = inherited_spelled e.object e.inherited is.inherited;
  sid_is = inl (sid_spelled e.sid is.sid);
  parts = entry_lower (type_text (has_guid e.object e.inherited) e.kind) (codes_text flag_codes e.flags)
      (rights_text e.mask) (guid_text_if e.object) (guid_text_if e.inherited) (sid_text e.sid);
}

-- ---- a list

entries_spelled : (domain : Option SidValue) (entries : List Entry) → AllByRecursion IsEntry entries
    → SpellsEach (SpellsEntry domain) entries (str_to_ascii_lowercase (flat_map entry_text entries))
entries_spelled domain [] each = refl
entries_spelled domain (e ∷ entries) each = record {
  front = str_to_ascii_lowercase (entry_text e);
  behind = str_to_ascii_lowercase (flat_map entry_text entries);
  parts = lower_append (entry_text e) (flat_map entry_text entries);
  spelled = entry_spelled domain e each.0;
  follows = entries_spelled domain entries each.1;
}

-- the flags of a list
abbrev flags_text : Bool → List ℕ
flags_text protected = if protected then codes "P" else []

list_flags_spelled : (protected : Bool) → SpellsListFlags protected (str_to_ascii_lowercase (flags_text protected))
list_flags_spelled true = record { given = codes "p" ∷ []; each = (inl refl, tt); protected_is = refl; parts = refl }
list_flags_spelled false = record { given = []; each = tt; protected_is = refl; parts = refl }

pub list_spelled : (domain : Option SidValue) (list : AceList) → AllByRecursion IsEntry list.entries
    → SpellsList domain list (str_to_ascii_lowercase (list_text list))
list_spelled domain list each = record {
  flags = str_to_ascii_lowercase (flags_text list.protected);
  entries = str_to_ascii_lowercase (flat_map entry_text list.entries);
  flags_are = list_flags_spelled list.protected;
  entries_are = entries_spelled domain list.entries each;
  parts = lower_append (flags_text list.protected) (flat_map entry_text list.entries);
}
