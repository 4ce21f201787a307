-- The words of a line: codes, types, and what represents nothing.
use Rattle.std.specs.Prelude.{ℕ, ◌==◌, if◌then◌else◌, Option, None, Some, List, [], ◌∷◌, ◌++◌, codes}
use Rattle.std.specs.Prelude.{unwrap_or}
use Rattle.std.specs.List.{flat_map}
use Rattle.std.specs.Option.{option_or}
use Rattle.ad_ids.specs.declared.guid.Guid.{Guid}
use Rattle.ad_ids.specs.Guid.{same_guid}
use Rattle.ad_ids.specs.GuidText.{guid_text}
use Rattle.ad_acl.specs.Entry.{says}
use Rattle.ad_acl.specs.declared.kind.AceKind.{AceKind}
use Rattle.ad_acl.specs.declared.kind.AceKind.TheVariants.{Allow, Deny, Audit}
use Rattle.ad_acl.specs.Codes.{flag_codes}
use Rattle.ad_acl.specs.declared.codes.Code.{Code}
use Rattle.ad_sddl.specs.Canonical.{code_text}
use Rattle.ad_schema.specs.declared.line.SchemaRecord.{SchemaRecord}
use Rattle.ad_schema.specs.declared.info.AttrInfo.{AttrInfo}
use Rattle.ad_schema.specs.declared.info.ClassInfo.{ClassInfo}
use Rattle.ad_schema.specs.declared.info.RightInfo.{RightInfo}
use Rattle.ad_schema.specs.Attributes.{attrs_of, rights_of}
use Rattle.ad_schema.specs.Classes.{classes_of}
use Rattle.ad_access_dir.specs.Labels.{is_title}

-- ---- pieces

abbrev pub newline : List ℕ
newline = 10 ∷ []

-- a line
abbrev pub labelled : List ℕ → List ℕ → List ℕ
labelled label text = label ++ (text ++ newline)

-- - where it is empty
abbrev pub or_dash : List ℕ → List ℕ
or_dash [] = codes "-"
or_dash (b ∷ bytes) = b ∷ bytes

-- ---- words

abbrev pub kind_text : AceKind → List ℕ
kind_text Allow = codes "allow"
kind_text Deny = codes "deny"
kind_text Audit = codes "audit"

-- the letters of a flag that an entry has, but for that of an inherited entry (16)
abbrev pub own_flag : ℕ → Code → List ℕ
own_flag flags code = if code.bits == 16 then [] else code_text flags code

unfoldable pub flags_text : ℕ → List ℕ
flags_text flags = flat_map (own_flag flags) flag_codes

abbrev pub origin_text : ℕ → List ℕ
origin_text flags = if says flags 16 then codes "inherited" else codes "explicit"

-- the name of the first class of the GUID
unfoldable pub class_name : List ClassInfo → Guid → Option (List ℕ)
class_name [] guid = None
class_name (c ∷ classes) guid = if same_guid c.guid guid then Some c.name else class_name classes guid

unfoldable pub attr_name : List AttrInfo → Guid → Option (List ℕ)
attr_name [] guid = None
attr_name (a ∷ attrs) guid = if same_guid a.guid guid then Some a.name else attr_name attrs guid

-- (a right whose cn is no word has no name in a line)
unfoldable pub right_name : List RightInfo → Guid → Option (List ℕ)
right_name [] guid = None
right_name (r ∷ rights) guid =
    if same_guid r.guid guid then (if is_title r.name then Some r.name else None)
    else right_name rights guid

-- that of a class, else of an attribute, else of a right
abbrev pub schema_name : List SchemaRecord → Guid → Option (List ℕ)
schema_name schema guid = option_or (class_name (classes_of schema) guid)
    (option_or (attr_name (attrs_of schema) guid) (right_name (rights_of schema) guid))

-- that name, else the GUID
unfoldable pub type_name : List SchemaRecord → Guid → List ℕ
type_name schema guid = unwrap_or (schema_name schema guid) (guid_text guid)

abbrev pub type_text : List SchemaRecord → Option Guid → List ℕ
type_text schema None = codes "-"
type_text schema (Some guid) = type_name schema guid
