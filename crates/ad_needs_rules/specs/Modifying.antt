-- Modify: its checks after the controls, up to the required rights.
use Rattle.std.specs.Prelude.{ℕ, Bool, true, false, not, ◌==◌, ◌&&◌, ◌||◌, if◌then◌else◌, Option, Some, None}
use Rattle.std.specs.Prelude.{is_some, option_map, codes, List, [], ◌∷◌, ◌++◌, length, find, filter, filter_map}
use Rattle.std.specs.Option.{option_map_or, option_and_then}
use Rattle.std.specs.List.{list_any, flat_map}
use Rattle.ad_ids.specs.declared.guid.Guid.{Guid}
use Rattle.ad_ids.specs.declared.token.Token.{Token}
use Rattle.ad_acl.specs.Mask.{self_write, write_property, control_access, write_dac, write_owner}
use Rattle.ad_acl.specs.Mask.{access_system_security}
use Rattle.ad_sd.specs.declared.parts.SdParts.{SdParts}
use Rattle.ad_ldap.specs.declared.items.Item.{Item}
use Rattle.ad_ldap.specs.declared.requests.Modify.{Modify}
use Rattle.ad_schema_classes.specs.Names.{same_name}
use Rattle.ad_schema.specs.declared.line.SchemaRecord.{SchemaRecord}
use Rattle.ad_schema.specs.Classes.{naming_of}
use Rattle.ad_schema.specs.Meaning.{attr_is_back_link}
use Rattle.ad_dir_objects.specs.declared.act.ActItem.{ActItem}
use Rattle.ad_dir_objects.specs.declared.act.Act.{Act}
use Rattle.ad_dir_objects.specs.declared.act.Act.TheVariants as act
use Rattle.ad_dir_model.specs.Attributes.{attr_place, object_sid}
use Rattle.ad_dir_model.specs.Directory.{Directory}
use Rattle.ad_needs_rules.specs.Needs.{Alternative, needs}
use Rattle.ad_needs_rules.specs.Checks.{Check, or_code, all_met}
use Rattle.ad_needs_rules.specs.Requests.{is_name, number_named, or_hidden, is_descriptor, has_place}
use Rattle.ad_access_dir.specs.Passwords.{is_password, force_change, change}
use Rattle.ad_needs_rules.specs.Requests.{class_at, attr_path}
use Rattle.ad_needs_rules.specs.Descriptors.{sd_in_one, asked_parts, has_owner_or_group, has_asked_part}
use Rattle.ad_needs_rules.specs.Validated.{validated_write}
use Rattle.ad_ldap.specs.ResultCodes.{undefined_attribute_type, object_class_mods_prohibited, not_allowed_on_rdn}
use Rattle.ad_ldap.specs.ResultCodes.{unwilling_to_perform, constraint_violation, invalid_dn_syntax}
use Rattle.ad_ldap.specs.Choices.{replace_values, delete_values, add_values}

-- ---- the items of one attribute

abbrev pub is_item_of : List ℕ → Item → Bool
is_item_of name item = same_name item.attr name

abbrev pub items_of : List Item → List ℕ → List Item
items_of items name = filter (is_item_of name) items

-- ---- passwords: forced, by one replace by one value; or changed, by a delete of one value and then an add of one

abbrev pub has_one : Item → Bool
has_one item = length item.values == 1

unfoldable pub is_forced : List Item → Bool
is_forced (item ∷ []) = item.op == replace_values && has_one item
is_forced _ = false

unfoldable pub is_changed : List Item → Bool
is_changed (old ∷ new ∷ []) = (old.op == delete_values && has_one old) && (new.op == add_values && has_one new)
is_changed _ = false

-- ---- checks of one item

-- distinguishedName, name, objectSid and back links are nobody's to write
abbrev pub is_unwritable : List SchemaRecord → List ℕ → Bool
is_unwritable schema name =
    same_name name (codes "distinguishedName") || (same_name name (codes "name")
    || (has_place schema (λ attr. option_map_or (λ sid. sid == attr) (object_sid schema) false) name
    || has_place schema (attr_is_back_link schema) name))

abbrev pub ordinary_checks : Directory → ℕ → List Item → Item → List Check
ordinary_checks dir number items item =
    or_code (is_some (attr_place dir.schema item.attr)) undefined_attribute_type
    ∷ or_code (not (same_name item.attr (codes "objectClass"))) object_class_mods_prohibited
    ∷ or_code (not (has_place dir.schema (λ attr. naming_of dir.schema (class_at dir number) == attr) item.attr))
    not_allowed_on_rdn
    ∷ or_code (not (is_unwritable dir.schema item.attr)) unwilling_to_perform
    ∷ or_code (not (is_password item.attr)
    || (is_forced (items_of items item.attr) || is_changed (items_of items item.attr))) unwilling_to_perform
    ∷ []

-- a descriptor is replaced, by one item, and has a part that is asked for
abbrev pub descriptor_checks : ℕ → List Item → Item → List Check
descriptor_checks flags items item =
    or_code (item.op == replace_values && length (items_of items item.attr) == 1) unwilling_to_perform
    ∷ or_code (has_asked_part flags item.values) constraint_violation
    ∷ []

abbrev pub item_checks : Directory → ℕ → ℕ → List Item → Item → List Check
item_checks dir number flags items item =
    if is_descriptor item.attr then descriptor_checks flags items item else ordinary_checks dir number items item

-- ---- needs

-- the parts of the descriptor that are written
abbrev pub written_sd : List Item → ℕ → Option SdParts
written_sd items flags = option_map (asked_parts flags)
    (option_and_then (λ item. sd_in_one item.values) (find (λ item. is_descriptor item.attr) items))

abbrev pub need_if : Bool → ℕ → ℕ → List (List Alternative)
need_if true number bit = (needs number bit [] ∷ []) ∷ []
need_if false number bit = []

-- WO for the owner or the group, WD for the DACL, AS for the SACL
abbrev pub parts_needs : ℕ → SdParts → List (List Alternative)
parts_needs number parts =
    need_if (has_owner_or_group parts) number write_owner
    ++ (need_if (is_some parts.dacl) number write_dac ++ need_if (is_some parts.sacl) number access_system_security)

abbrev pub descriptor_needs : ℕ → Option SdParts → List (List Alternative)
descriptor_needs number None = []
descriptor_needs number (Some parts) = parts_needs number parts

-- CR on the right for the form that the items have
abbrev pub password_needs : ℕ → List Item → List (List Alternative)
password_needs number items = (needs number control_access ((if is_forced items then force_change else change) ∷ [])
    ∷ []) ∷ []

abbrev pub or_validated : ℕ → Option Guid → List Alternative
or_validated number None = []
or_validated number (Some guid) = needs number self_write (guid ∷ []) ∷ []

-- WP on the attribute, or SW on the validated write where all its items are valid
abbrev pub attr_needs : Directory → Token → ℕ → ℕ → List Item → List (List Alternative)
attr_needs dir token number attr items =
    (needs number write_property (attr_path dir.schema (class_at dir number) attr)
    ∷ or_validated number (validated_write dir token number attr items)) ∷ []

abbrev pub ordinary_needs : Directory → Token → ℕ → List Item → Option ℕ → List (List Alternative)
ordinary_needs dir token number items None = []
ordinary_needs dir token number items (Some attr) = attr_needs dir token number attr items

abbrev pub item_needs : Directory → Token → ℕ → ℕ → List Item → Item → List (List Alternative)
item_needs dir token number flags items item =
    if is_descriptor item.attr then descriptor_needs number (written_sd items flags)
    else (if is_password item.attr then password_needs number (items_of items item.attr)
    else ordinary_needs dir token number (items_of items item.attr) (attr_place dir.schema item.attr))

-- each attribute where it is first named
unfoldable pub needs_behind : Directory → Token → ℕ → ℕ → List Item → List Item → List Item → List (List Alternative)
needs_behind dir token number flags items earlier [] = []
needs_behind dir token number flags items earlier (item ∷ others) =
    (if list_any (is_item_of item.attr) earlier then [] else item_needs dir token number flags items item)
    ++ needs_behind dir token number flags items (earlier ++ item ∷ []) others

abbrev pub modify_needs : Directory → Token → ℕ → ℕ → List Item → List (List Alternative)
modify_needs dir token number flags items = needs_behind dir token number flags items [] items

-- ---- checks

unfoldable pub modify_checks : Directory → Token → Modify → ℕ → List Check
modify_checks dir token m flags =
    let number = number_named dir token m.dn in
    or_code (is_name m.dn) invalid_dn_syntax
    ∷ or_hidden dir token m.dn
    ∷ (flat_map (item_checks dir number flags m.items) m.items
    ++ all_met dir token (modify_needs dir token number flags m.items))

-- ---- what is asked for

abbrev pub act_item : List SchemaRecord → Item → Option ActItem
act_item schema item =
    if is_descriptor item.attr then None else option_map
    (λ attr. record { op = item.op; attr = record { 0 = attr }; values = item.values })
    (attr_place schema item.attr)

unfoldable pub act_items : List SchemaRecord → List Item → List ActItem
act_items schema items = filter_map (act_item schema) items

abbrev pub modify_act : Directory → Token → Modify → ℕ → Act
modify_act dir token m flags = act.Modify (number_named dir token m.dn) (act_items dir.schema m.items)
    (written_sd m.items flags)
