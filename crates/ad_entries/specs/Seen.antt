-- What a token sees of a directory: the visible objects, and of each its name, the values of the attributes that may
-- be read, the parts of the descriptor that may be read, and what the token may change there ([MS-ADTS] 3.1.1.4.4,
-- 5.1.3).
use Rattle.std.specs.Prelude.{ℕ, suc, Bool, not, ◌&&◌, ◌||◌, if◌then◌else◌, codes, List, [], ◌∷◌, map, filter}
use Rattle.std.specs.Prelude.{slice_get}
use Rattle.std.specs.Prelude.{Option, Some, None, unwrap_or, option_map, option_and_then}
use Rattle.ad_ids.specs.declared.token.Token.{Token}
use Rattle.ad_acl.specs.Mask.{read_property, control_access, read_control, access_system_security}
use Rattle.ad_sd.specs.declared.parts.SdParts.{SdParts}
use Rattle.ad_sd.specs.Shown.{asked}
use Rattle.ad_dn.specs.declared.rdn.Rdn.{Rdn}
use Rattle.ad_value.specs.Value.{Value}
use Rattle.ad_schema_classes.specs.Names.{same_name}
use Rattle.ad_schema.specs.declared.line.SchemaRecord.{SchemaRecord}
use Rattle.ad_schema.specs.declared.info.AttrId.{AttrId}
use Rattle.ad_schema.specs.declared.info.AttrInfo.{AttrInfo}
use Rattle.ad_schema.specs.Attributes.{attrs_of, attr_named}
use Rattle.ad_types.specs.TypesOf.{path_of}
use Rattle.ad_filter.specs.Filtering.{Readable}
use Rattle.ad_dir_model.specs.Objects.{numbers, object_at, sd_at}
use Rattle.ad_dir_model.specs.Directory.{Directory}
use Rattle.ad_dir_model.specs.Names.{rdns_of}
use Rattle.ad_dir_model.specs.Shown.{shown}
use Rattle.ad_access_dir.specs.Sight.{is_granted, is_visible}
use Rattle.ad_constructed_dir.specs.Changing.{Changing, changing_of}

-- ---- attributes

-- Attributes of these names are read by nobody: the password; the descriptor, which is no ordinary attribute; and the
-- three that tell what a token may change.
unfoldable pub is_never_read : List ℕ → Bool
is_never_read name =
    same_name name (codes "unicodePwd") || same_name name (codes "nTSecurityDescriptor")
    || same_name name (codes "allowedAttributesEffective") || same_name name (codes "allowedChildClassesEffective")
    || same_name name (codes "sDRightsEffective")

-- the right is granted on the path of the attribute at this place
abbrev pub is_granted_on : Directory → Token → ℕ → ℕ → ℕ → Bool
is_granted_on dir token number attr bit =
    is_granted dir token number (path_of dir.schema (record { 0 = (object_at dir.objects number).class })
    (record { 0 = attr })) bit

-- An attribute is read with the right to read it, and a confidential one with control access on it too.
unfoldable pub is_readable : Directory → Token → ℕ → ℕ → AttrInfo → Bool
is_readable dir token number attr info =
    not (is_never_read info.name) && is_granted_on dir token number attr read_property
    && (not info.confidential || is_granted_on dir token number attr control_access)

-- what the object shows of the attribute, where it may be read
unfoldable pub read_of : Directory → Token → ℕ → ℕ → AttrInfo → Option (List Value)
read_of dir token number attr info = if is_readable dir token number attr info then Some (shown dir number attr)
    else None

-- of each of these attributes, the first of which has this place
unfoldable pub reads_from : Directory → Token → ℕ → ℕ → List AttrInfo → List (Option (List Value))
reads_from dir token number place [] = []
reads_from dir token number place (info ∷ infos) = read_of dir token number place info ∷ reads_from dir token number
    (suc place) infos

-- ---- the descriptor

-- owner, group and DACL are read with read control, the SACL with the right for it
unfoldable pub parts_read : Directory → Token → ℕ → SdParts
parts_read dir token number =
    let sd = sd_at dir.objects number in
    let control = is_granted dir token number [] read_control in
    record {
      owner = asked control sd.owner;
      group = asked control sd.group;
      dacl = asked control sd.dacl;
      sacl = asked (is_granted dir token number [] access_system_security) sd.sacl;
    }

-- ---- objects

-- An object as a token sees it: its name, of each attribute of the schema in its order what the object shows of it,
-- where that may be read, the parts of the descriptor that may be read, and what the token may change there.
pub record Seen : Type 0 where
  pub name : List Rdn
  pub values : List (Option (List Value))
  pub parts : SdParts
  pub changing : Changing

unfoldable pub seen_of : Directory → Token → ℕ → Seen
seen_of dir token number = record {
  name = rdns_of dir number;
  values = reads_from dir token number 0 (attrs_of dir.schema);
  parts = parts_read dir token number;
  changing = changing_of dir token number;
}

-- what the token sees of these objects: the visible ones, in their order
unfoldable pub seen_among : Directory → Token → List ℕ → List Seen
seen_among dir token objects = map (seen_of dir token) (filter (is_visible dir token) objects)

-- All that the token sees, by rising number. The numbers themselves are no part of it.
unfoldable pub view : Directory → Token → List Seen
view dir token = seen_among dir token (numbers dir.objects)

-- ---- attributes of an object as it is seen, by name

abbrev pub values_at : Seen → ℕ → Option (List Value)
values_at seen attr = unwrap_or (slice_get seen.values attr) None

-- the syntax of an attribute, and its values
abbrev pub readable_at : AttrInfo → Option (List Value) → Option Readable
readable_at info values = option_map (λ values. record { syntax = info.syntax; values = values }) values

abbrev pub readable_of : List SchemaRecord → Seen → AttrId → Option Readable
readable_of schema seen id = option_and_then (λ info. readable_at info (values_at seen id.0))
    (slice_get (attrs_of schema) id.0)

-- what may be read of the object by the names of attributes: none of an unknown one and of one that may not be read
unfoldable pub reads : List SchemaRecord → Seen → List ℕ → Option Readable
reads schema seen name = option_and_then (readable_of schema seen) (attr_named schema name)
