-- An entry of a search: which attributes it has, and its message (RFC 4511 4.5.2).
use Rattle.std.specs.Prelude.{ℕ, Bool, true, false, not, ◌&&◌, ◌||◌, ◌==◌, if◌then◌else◌, codes, List, [], ◌∷◌, ◌++◌}
use Rattle.std.specs.Prelude.{length, map}
use Rattle.std.specs.Prelude.{Option, Some, None, is_some, option_to_list, Result, Ok, Err}
use Rattle.std.specs.List.{list_any}
use Rattle.std.specs.Str.{bytes_eq}
use Rattle.ad_acl.specs.Entry.{says}
use Rattle.ad_acl.specs.declared.write_fault.AclWriteFault.{AclWriteFault}
use Rattle.ad_sd.specs.declared.parts.SdParts.{SdParts}
use Rattle.ad_sd.specs.Writing.{written}
use Rattle.ad_dn.specs.Text.{rdns_text}
use Rattle.ad_value.specs.Value.{Value}
use Rattle.ad_schema_classes.specs.Names.{same_name}
use Rattle.ad_schema.specs.declared.line.SchemaRecord.{SchemaRecord}
use Rattle.ad_schema.specs.declared.info.AttrInfo.{AttrInfo}
use Rattle.ad_schema.specs.Attributes.{attrs_of}
use Rattle.ad_ldap.specs.declared.reply.Reply.TheVariants as reply
use Rattle.ad_ldap.specs.Reply.{reply_bytes}
use Rattle.ad_ldap.specs.MessageValue.{SearchValue}
use Rattle.ad_constructed_dir.specs.Changing.{Changing}
use Rattle.ad_entries.specs.Seen.{Seen}

-- an attribute's name and its values, as an entry has them
abbrev pub Given : Type 0
Given = List ℕ × List (List ℕ)

-- with the values left out a set is empty
abbrev pub values_if : Bool → List (List ℕ) → List (List ℕ)
values_if types_only values = if types_only then [] else values

-- ---- attributes

-- An empty list and * ask for all attributes, and a name for its attribute.
abbrev pub asks_for : List ℕ → List ℕ → Bool
asks_for name sent = bytes_eq sent (codes "*") || same_name name sent

unfoldable pub is_asked : List (List ℕ) → List ℕ → Bool
is_asked sent name = (length sent == 0) || list_any (asks_for name) sent

-- An attribute is given where it is asked for, may be read, and has a value: its name as the schema spells it, and
-- its values in their order.
abbrev pub attr_given : SearchValue → AttrInfo → Option (List Value) → Option Given
attr_given search info None = None
attr_given search info (Some values) =
    if is_asked search.attrs info.name && not (length values == 0)
    then Some (info.name, values_if search.types_only (map (λ value. value.shown) values))
    else None

-- in the order of the schema
unfoldable pub attrs_given : SearchValue → List AttrInfo → List (Option (List Value)) → List Given
attrs_given search [] values = []
attrs_given search (info ∷ infos) [] = []
attrs_given search (info ∷ infos) (values ∷ others) = option_to_list (attr_given search info values)
    ++ attrs_given search infos others

-- ---- what the token may change

unfoldable pub attributes_name : List ℕ
attributes_name = codes "allowedAttributesEffective"

unfoldable pub children_name : List ℕ
children_name = codes "allowedChildClassesEffective"

unfoldable pub parts_name : List ℕ
parts_name = codes "sDRightsEffective"

-- some name that was sent is this one
unfoldable pub is_sent : List (List ℕ) → List ℕ → Bool
is_sent sent name = list_any (same_name name) sent

-- It is given where it is asked for, which is by its name alone, and has a value.
abbrev pub changing_attr : SearchValue → List ℕ → List (List ℕ) → List Given
changing_attr search name values =
    if is_sent search.attrs name && not (length values == 0) then (name, values_if search.types_only values) ∷ []
    else []

-- the three in their order
unfoldable pub changing_attrs : SearchValue → Changing → List Given
changing_attrs search changing =
    changing_attr search attributes_name changing.attributes
    ++ (changing_attr search children_name changing.children ++ changing_attr search parts_name changing.parts)

-- ---- the descriptor

unfoldable pub descriptor_name : List ℕ
descriptor_name = codes "nTSecurityDescriptor"

-- it is asked for by its name alone
unfoldable pub is_descriptor_asked : List (List ℕ) → Bool
is_descriptor_asked sent = list_any (same_name descriptor_name) sent

-- a part is read or isn't asked for
abbrev pub is_read_if : {A : Type 0} → Bool → Option A → Bool
is_read_if wanted part = not wanted || is_some part

-- each part that is asked for may be read: 1 the owner, 2 the group, 4 the DACL, 8 the SACL
unfoldable pub are_read : SdParts → ℕ → Bool
are_read parts flags =
    is_read_if (says flags 1) parts.owner && is_read_if (says flags 2) parts.group
    && is_read_if (says flags 4) parts.dacl && is_read_if (says flags 8) parts.sacl

abbrev pub only_if : {A : Type 0} → Bool → Option A → Option A
only_if wanted part = if wanted then part else None

-- the parts that are asked for
unfoldable pub parts_asked : SdParts → ℕ → SdParts
parts_asked parts flags = record {
  owner = only_if (says flags 1) parts.owner;
  group = only_if (says flags 2) parts.group;
  dacl = only_if (says flags 4) parts.dacl;
  sacl = only_if (says flags 8) parts.sacl;
}

-- The descriptor's bytes, where it is asked for and each part that is asked for may be read; or that a list of it is
-- too long.
unfoldable pub descriptor_given : SearchValue → ℕ → SdParts → Option (Result (List ℕ) AclWriteFault)
descriptor_given search flags parts =
    if is_descriptor_asked search.attrs && are_read parts flags then Some (written (parts_asked parts flags)) else None

-- as an attribute, after all others
abbrev pub descriptor_attr : SearchValue → Option (Result (List ℕ) AclWriteFault) → List Given
descriptor_attr search None = []
descriptor_attr search (Some (Ok bytes)) = (descriptor_name, values_if search.types_only (bytes ∷ [])) ∷ []
descriptor_attr search (Some (Err fault)) = []

-- a descriptor that is too long is left out
abbrev pub is_left_out : Option (Result (List ℕ) AclWriteFault) → Bool
is_left_out (Some (Err fault)) = true
is_left_out _ = false

-- ---- the entry

-- the entry's message, and whether its descriptor is left out
pub record Entry : Type 0 where
  pub message : List ℕ
  pub is_short : Bool

unfoldable pub entry_of : List SchemaRecord → ℕ → SearchValue → ℕ → Seen → Entry
entry_of schema id search flags seen =
    let descriptor = descriptor_given search flags seen.parts in
    record {
      message = reply_bytes (reply.Entry id (rdns_text seen.name)
          ((attrs_given search (attrs_of schema) seen.values ++ changing_attrs search seen.changing)
          ++ descriptor_attr search descriptor));
      is_short = is_left_out descriptor;
    }
