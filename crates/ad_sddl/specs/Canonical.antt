-- The one text that is written of the parts of a security descriptor.
use Rattle.std.specs.Prelude.{◌≡◌, ℕ, zero, suc, ◌/◌, ◌%◌, ◌<◌, ◌==◌, Bool, bit_or, if◌then◌else◌, Option, Some, None}
use Rattle.std.specs.Prelude.{List, [], ◌∷◌, ◌++◌, codes}
use Rattle.std.specs.List.{flat_map, AllByRecursion}
use Rattle.ad_ids.specs.declared.guid.Guid.{Guid}
use Rattle.ad_ids.specs.GuidText.{guid_text}
use Rattle.ad_bytes.specs.Hex.{hex_digit}
use Rattle.ad_ids.specs.SidText.{sid_text}
use Rattle.ad_ids.specs.SidValue.{SidValue}
use Rattle.ad_acl.specs.Entry.{Entry, says}
use Rattle.ad_acl.specs.Writing.{has_guid, IsEntry}
use Rattle.ad_sd.specs.Writing.{IsSidIf}
use Rattle.ad_sd.specs.declared.parts.AceList.{AceList}
use Rattle.ad_sd.specs.declared.parts.Sd.{Sd}
use Rattle.ad_sd.specs.declared.parts.SdParts.{SdParts}
use Rattle.ad_acl.specs.declared.codes.Code.{Code}
use Rattle.ad_acl.specs.Codes.{flag_codes, right_codes}
use Rattle.ad_sddl.specs.Grammar.{with_codes, entry_of, type_text}

-- ---- flags and rights

-- the letters of the code, where the mask has its bit
abbrev pub code_text : ℕ → Code → List ℕ
code_text mask code = if says mask code.bits then code.letters else []

-- the codes of a mask, in the order of the table
abbrev pub codes_text : List Code → ℕ → List ℕ
codes_text table mask = flat_map (code_text mask) table

-- the last k hexadecimal digits of n, without zeros before them
unfoldable pub hex_text : ℕ → ℕ → List ℕ
hex_text zero n = []
hex_text (suc k) n = if n == 0 then [] else hex_text k (n / 16) ++ hex_digit (n % 16) ∷ []

-- the bits of all codes of rights
unfoldable pub all_rights : ℕ
all_rights = with_codes 0 right_codes

-- they have all bits of the mask
abbrev pub is_covered : ℕ → Bool
is_covered mask = bit_or mask all_rights == all_rights

-- as codes where these have all its bits, else in hexadecimal
abbrev pub rights_text : ℕ → List ℕ
rights_text mask = if is_covered mask then codes_text right_codes mask else codes "0x" ++ hex_text 8 mask

-- ---- entries

abbrev pub guid_text_if : Option Guid → List ℕ
guid_text_if None = []
guid_text_if (Some guid) = guid_text guid

-- a type that may have GUIDs exactly where there is one
abbrev pub entry_text : Entry → List ℕ
entry_text e = entry_of (type_text (has_guid e.object e.inherited) e.kind) (codes_text flag_codes e.flags)
    (rights_text e.mask) (guid_text_if e.object) (guid_text_if e.inherited) (sid_text e.sid)

-- ---- the descriptor

abbrev pub sid_part : List ℕ → Option SidValue → List ℕ
sid_part head None = []
sid_part head (Some sid) = head ++ sid_text sid

abbrev pub list_text : AceList → List ℕ
list_text list = (if list.protected then codes "P" else []) ++ flat_map entry_text list.entries

abbrev pub list_part : List ℕ → Option AceList → List ℕ
list_part head None = []
list_part head (Some list) = head ++ list_text list

-- owner, group, DACL and SACL
unfoldable pub canonical : SdParts → List ℕ
canonical p = sid_part (codes "O:") p.owner
    ++ (sid_part (codes "G:") p.group ++ (list_part (codes "D:") p.dacl ++ list_part (codes "S:") p.sacl))

-- all four parts of a descriptor
abbrev pub all_parts : Sd → SdParts
all_parts sd = record { owner = Some sd.owner; group = Some sd.group; dacl = Some sd.dacl; sacl = Some sd.sacl }

-- ---- what parts are

abbrev pub AreEntriesIf : Option AceList → Type 0
AreEntriesIf None = Unit {0}
AreEntriesIf (Some list) = AllByRecursion IsEntry list.entries

-- parts whose fields have their ranges
pub record AreParts (p : SdParts) : Type 0 where
  pub owner : IsSidIf p.owner
  pub group : IsSidIf p.group
  pub dacl : AreEntriesIf p.dacl
  pub sacl : AreEntriesIf p.sacl

-- none of the parts is there
abbrev pub IsEmpty : SdParts → Type 0
IsEmpty p = (p.owner ≡ None) × (p.group ≡ None) × (p.dacl ≡ None) × (p.sacl ≡ None)

-- the letters of the codes are ASCII
abbrev pub AreCapitals : List Code → Type 0
AreCapitals table = AllByRecursion (λ code. AllByRecursion (λ letter. letter < 128) code.letters) table
