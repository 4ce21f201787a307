-- Add: its checks after the controls, up to the required rights.
use Rattle.std.specs.Prelude.{ℕ, Bool, true, false, not, ◌==◌, ◌||◌, if◌then◌else◌, Option, None, is_some}
use Rattle.std.specs.Prelude.{option_map, unwrap_or, codes, List, [], ◌∷◌, ◌++◌, length, drop, find, map, filter}
use Rattle.std.specs.Prelude.{filter_map}
use Rattle.std.specs.Option.{option_map_or, option_and_then}
use Rattle.std.specs.List.{list_all, list_any, flat_map}
use Rattle.std.specs.Str.{bytes_eq}
use Rattle.ad_ids.specs.declared.token.Token.{Token}
use Rattle.ad_acl.specs.Mask.{create_child, access_system_security}
use Rattle.ad_sd.specs.declared.parts.SdParts.{SdParts}
use Rattle.ad_dn.specs.declared.rdn.Rdn.{Rdn}
use Rattle.ad_ldap.specs.declared.requests.Add.{Add}
use Rattle.ad_schema_classes.specs.Names.{same_name}
use Rattle.ad_schema.specs.declared.line.SchemaRecord.{SchemaRecord}
use Rattle.ad_schema.specs.declared.info.AttrId.{AttrId}
use Rattle.ad_schema.specs.Meaning.{attr_is_back_link}
use Rattle.ad_dir_objects.specs.declared.act.Act.{Act}
use Rattle.ad_dir_objects.specs.declared.act.Act.TheVariants as act
use Rattle.ad_dir_model.specs.Tree.{root}
use Rattle.ad_dir_model.specs.Attributes.{attr_place, is_named, object_sid}
use Rattle.ad_dir_model.specs.Directory.{Directory}
use Rattle.ad_dir_model.specs.Names.{found}
use Rattle.ad_dir_model.specs.Shown.{is_naming}
use Rattle.ad_access_dir.specs.Sight.{visible_of, matched}
use Rattle.ad_needs_rules.specs.Needs.{Alternative, needs}
use Rattle.ad_needs_rules.specs.Checks.{Check, hidden, or_code, all_met}
use Rattle.ad_needs_rules.specs.Requests.{parts_in, is_descriptor, class_path, no_rdn}
use Rattle.ad_needs_rules.specs.Descriptors.{sd_in_one, asked_parts}
use Rattle.ad_schema_defaults.specs.NewClass.{class_by_names, is_schema_class}
use Rattle.ad_needs_rules.specs.Renaming.{is_typed}
use Rattle.ad_ldap.specs.ResultCodes.{undefined_attribute_type, attribute_or_value_exists, unwilling_to_perform}
use Rattle.ad_ldap.specs.ResultCodes.{naming_violation, invalid_dn_syntax, entry_already_exists}
use Rattle.ad_ldap.specs.ResultCodes.{object_class_violation, constraint_violation}

-- ---- the name

abbrev pub first_part : List Rdn → Rdn
first_part [] = no_rdn
first_part (rdn ∷ rdns) = rdn

abbrev pub new_part : Add → Rdn
new_part a = first_part (parts_in a.dn)

-- the name has a part
abbrev pub has_parts : Add → Bool
has_parts a = not (length (parts_in a.dn) == 0)

abbrev pub is_root_named : Directory → Add → Bool
is_root_named dir a = option_map_or (λ number. number == root) (found dir (parts_in a.dn)) false

-- the visible object that the other parts name
unfoldable pub parent_named : Directory → Token → Add → Option ℕ
parent_named dir token a = visible_of dir token (drop 1 (parts_in a.dn))

abbrev pub parent_number : Directory → Token → Add → ℕ
parent_number dir token a = unwrap_or (parent_named dir token a) 0

abbrev pub parent_seen : Directory → Token → Add → Check
parent_seen dir token a = record {
  holds = is_some (parent_named dir token a);
  refusal
      = hidden (matched dir token (parts_in a.dn));
}

-- ---- attributes as they were sent

abbrev pub is_of : List ℕ → List ℕ × List (List ℕ) → Bool
is_of name attr = same_name attr.0 name

-- the values that were sent of the attribute of a name
unfoldable pub sent : Add → List ℕ → Option (List (List ℕ))
sent a name = option_map (λ attr. attr.1) (find (is_of name) a.attrs)

-- each is known, and isn't named a second time
abbrev pub naming_checks : List SchemaRecord → List (List ℕ × List (List ℕ)) → List ℕ × List (List ℕ) → List Check
naming_checks schema earlier attr =
    or_code (is_descriptor attr.0 || is_some (attr_place schema attr.0)) undefined_attribute_type
    ∷ or_code (not (list_any (is_of attr.0) earlier)) attribute_or_value_exists
    ∷ []

unfoldable pub all_naming_checks : List SchemaRecord → List (List ℕ × List (List ℕ)) → List (List ℕ × List (List ℕ))
    → List Check
all_naming_checks schema earlier [] = []
all_naming_checks schema earlier (attr ∷ attrs) = naming_checks schema earlier attr ++ all_naming_checks schema
    (earlier ++ attr ∷ []) attrs

-- ---- the class

unfoldable pub new_class : Directory → Add → Option ℕ
new_class dir a = class_by_names dir.schema (unwrap_or (sent a (codes "objectClass")) [])

abbrev pub class_number : Directory → Add → ℕ
class_number dir a = unwrap_or (new_class dir a) 0

-- ---- the descriptor

-- it isn't sent, or it is one value that can be read
abbrev pub descriptor_reads : Add → Bool
descriptor_reads a = option_map_or (λ values. is_some (sd_in_one values)) (sent a (codes "nTSecurityDescriptor")) true

-- the parts that are sent and asked for, where it is sent
abbrev pub new_sd : Add → ℕ → Option SdParts
new_sd a flags = option_map (asked_parts flags) (option_and_then sd_in_one (sent a (codes "nTSecurityDescriptor")))

abbrev pub brings_sacl : Option SdParts → Bool
brings_sacl sd = option_map_or (λ parts. is_some parts.sacl) sd false

-- ---- attributes by their places

-- an ordinary attribute with its values
abbrev pub ordinary : List SchemaRecord → List ℕ × List (List ℕ) → Option (ℕ × List (List ℕ))
ordinary schema attr = if is_descriptor attr.0 then None else option_map (λ place. (place, attr.1))
    (attr_place schema attr.0)

unfoldable pub all_ordinary : List SchemaRecord → Add → List (ℕ × List (List ℕ))
all_ordinary schema a = filter_map (ordinary schema) a.attrs

-- objectSid, distinguishedName and back links are nobody's to give
abbrev pub is_kept_back : List SchemaRecord → ℕ → Bool
is_kept_back schema attr =
    option_map_or (λ sid. sid == attr) (object_sid schema) false
    || (is_named schema (codes "distinguishedName") attr || attr_is_back_link schema attr)

-- name and the naming attribute may be sent, as they are in the name
abbrev pub own_checks : List SchemaRecord → ℕ → List ℕ → ℕ × List (List ℕ) → List Check
own_checks schema class value attr =
    or_code (not (is_kept_back schema attr.0)) unwilling_to_perform
    ∷ or_code (not (is_naming schema class attr.0) || list_all (bytes_eq value) attr.1) naming_violation
    ∷ []

-- the attributes that the object gets: all but objectClass, name and the naming attribute
abbrev pub is_value : List SchemaRecord → ℕ → ℕ → Bool
is_value schema class attr = not (is_named schema (codes "objectClass") attr || is_naming schema class attr)

abbrev pub by_id : ℕ × List (List ℕ) → AttrId × List (List ℕ)
by_id attr = (record { 0 = attr.0 }, attr.1)

unfoldable pub new_values : List SchemaRecord → ℕ → Add → List (AttrId × List (List ℕ))
new_values schema class a = map by_id (filter (λ attr. is_value schema class attr.0) (all_ordinary schema a))

-- ---- needs

-- CC on the parent for the class, and AS on it where a SACL is brought
abbrev pub sacl_needs : ℕ → Bool → List (List Alternative)
sacl_needs parent true = (needs parent access_system_security [] ∷ []) ∷ []
sacl_needs parent false = []

abbrev pub add_needs : Directory → ℕ → ℕ → Option SdParts → List (List Alternative)
add_needs dir parent class sd = (needs parent create_child (class_path dir.schema class) ∷ [])
    ∷ sacl_needs parent (brings_sacl sd)

-- ---- checks

unfoldable pub add_checks : Directory → Token → Add → ℕ → List Check
add_checks dir token a flags =
    let class = class_number dir a in
    or_code (has_parts a) invalid_dn_syntax
    ∷ or_code (not (is_root_named dir a)) entry_already_exists
    ∷ parent_seen dir token a
    ∷ (all_naming_checks dir.schema [] a.attrs
    ++ (or_code (is_some (new_class dir a)) object_class_violation
    ∷ or_code (not (is_schema_class dir.schema class)) unwilling_to_perform
    ∷ or_code (is_typed dir.schema class (new_part a)) naming_violation
    ∷ or_code (descriptor_reads a) constraint_violation
    ∷ (flat_map (own_checks dir.schema class (new_part a).value) (all_ordinary dir.schema a)
    ++ all_met dir token (add_needs dir (parent_number dir token a) class (new_sd a flags)))))

abbrev pub add_act : Directory → Token → Add → ℕ → Act
add_act dir token a flags =
    let class = class_number dir a in
    act.Add (parent_number dir token a) (record { 0 = class }) (new_part a).value (new_values dir.schema class a)
    (new_sd a flags)
