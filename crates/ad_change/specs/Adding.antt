-- Add: its checks after the required rights, and what it makes.
use Rattle.std.specs.Prelude.{ℕ, Bool, true, not, is_none, nat_lt, ◌&&◌, ◌==◌, Option, List, [], ◌∷◌, ◌++◌, length}
use Rattle.std.specs.Option.{option_map_or}
use Rattle.std.specs.List.{list_all, list_any, flat_map}
use Rattle.ad_ids.specs.declared.token.Token.{Token}
use Rattle.ad_sd.specs.declared.parts.SdParts.{SdParts}
use Rattle.ad_inherit.specs.Creation.{chosen}
use Rattle.ad_schema.specs.declared.info.AttrId.{AttrId}
use Rattle.ad_schema.specs.Classes.{is_under, is_allowed}
use Rattle.ad_dir_model.specs.Limits.{max_depth, max_objects, max_counter}
use Rattle.ad_dir_model.specs.Object.{Stored, Held, Object}
use Rattle.ad_dir_model.specs.Identity.{domain_sid}
use Rattle.ad_dir_model.specs.Directory.{Directory, parents}
use Rattle.ad_dir_model.specs.Names.{child_named}
use Rattle.ad_dir_model.specs.Changes.{with_values, new_sid, numbered, added}
use Rattle.ad_needs_rules.specs.Checks.{Check, or_code}
use Rattle.ad_needs_rules.specs.Requests.{class_at}
use Rattle.ad_needs_rules.specs.Descriptors.{is_owner_allowed}
use Rattle.ad_change_values.specs.Values.{all_attrs, is_lacking, reads, is_short, leads}
use Rattle.ad_dir_model.specs.Attributes.{is_single}
use Rattle.ad_change_values.specs.Values.{is_no_empty_password, is_given_twice, all_stored}
use Rattle.ad_change.specs.Tree.{depth_of, fits_weight_limit}
use Rattle.ad_schema_defaults.specs.Defaults.{default_of}
use Rattle.ad_ldap.specs.ResultCodes.{admin_limit_exceeded, constraint_violation, attribute_or_value_exists}
use Rattle.ad_ldap.specs.ResultCodes.{invalid_attribute_syntax, naming_violation, object_class_violation}
use Rattle.ad_ldap.specs.ResultCodes.{entry_already_exists}

-- ---- what is added

-- an attribute with its values before others; one without values isn't held
abbrev pub held_before : ℕ → List Stored → List Held → List Held
held_before attr [] others = others
held_before attr (first ∷ values) others = with_values attr (first ∷ values) others

-- the attributes with their stored values, by rising number
unfoldable pub all_held : Directory → List (AttrId × List (List ℕ)) → List Held
all_held dir [] = []
all_held dir (attr ∷ attrs) = held_before attr.0.0 (all_stored dir attr.0.0 attr.1) (all_held dir attrs)

-- The object but for its number and its identifier: each part of its own descriptor is the given one, else that of
-- the class's default, and else the owner and the primary group of the token.
unfoldable pub new_object : Directory → Token → ℕ → ℕ → List ℕ → List (AttrId × List (List ℕ)) → Option SdParts → Object
new_object dir token parent class name values sd = record {
  number = 0;
  parent = parent;
  class = class;
  name = name;
  values = all_held dir values;
  sd = chosen sd (default_of dir.schema (domain_sid dir) class) token.owner token.primary;
}

-- ---- checks

abbrev pub attr_checks : Directory → AttrId × List (List ℕ) → List Check
attr_checks dir attr =
    or_code (list_all (reads dir.schema attr.0.0) attr.1) invalid_attribute_syntax
    ∷ or_code (list_all (is_short dir.schema attr.0.0) attr.1) constraint_violation
    ∷ or_code (not (is_given_twice dir.schema attr.0.0 attr.1)) attribute_or_value_exists
    ∷ or_code (not (is_single dir.schema attr.0.0 && nat_lt 1 (length attr.1))) constraint_violation
    ∷ or_code (list_all (leads dir attr.0.0) attr.1) constraint_violation
    ∷ or_code (list_all (is_no_empty_password dir.schema attr.0.0) attr.1) constraint_violation
    ∷ []

-- the attribute is given, with a value
abbrev pub is_given : List (AttrId × List (List ℕ)) → ℕ → Bool
is_given values attr = list_any (λ given. given.0.0 == attr && not (length given.1 == 0)) values

-- none that the class must have is missing
abbrev pub has_musts : Directory → ℕ → List (AttrId × List (List ℕ)) → Bool
has_musts dir class values = list_all (λ attr. not (is_lacking dir.schema class attr (is_given values attr)))
    (all_attrs dir.schema)

-- objects, depth, weight, and the counters of numbers and, where the object gets one, of identifiers
unfoldable pub fits_in : Directory → Object → Bool
fits_in dir o =
    nat_lt (length dir.objects) max_objects && (nat_lt (depth_of (parents dir) o.parent) max_depth
    && (fits_weight_limit dir (numbered dir o) && (nat_lt dir.meta.next_number max_counter
    && option_map_or (λ sid. nat_lt dir.meta.next_rid max_counter) (new_sid dir o.class) true)))

unfoldable pub add_later : Directory → Token → ℕ → ℕ → List ℕ → List (AttrId × List (List ℕ)) → Option SdParts
    → List Check
add_later dir token parent class name values sd =
    or_code (is_owner_allowed token sd) constraint_violation
    ∷ or_code (is_under dir.schema class (class_at dir parent)) naming_violation
    ∷ (flat_map (attr_checks dir) values
    ++ (or_code (list_all (λ attr. is_allowed dir.schema class attr.0.0) values) object_class_violation
    ∷ or_code (has_musts dir class values) object_class_violation
    ∷ or_code (is_none (child_named dir.objects parent name)) entry_already_exists
    ∷ or_code (fits_in dir (new_object dir token parent class name values sd)) admin_limit_exceeded
    ∷ []))

-- ---- what it makes

abbrev pub add_made : Directory → Token → ℕ → ℕ → List ℕ → List (AttrId × List (List ℕ)) → Option SdParts → Directory
add_made dir token parent class name values sd = added dir (new_object dir token parent class name values sd)
