-- What is said on the way to the edits of an addition.
use Rattle.std.specs.Prelude.{◌≡◌, ℕ, Bool, is_some, Option, List, [], ◌∷◌, ◌++◌, map}
use Rattle.std.specs.List.{list_all, flat_map, AllByRecursion}
use Rattle.ad_bytes.specs.Reading.{IsBytes}
use Rattle.ad_ids.specs.declared.token.Token.{Token}
use Rattle.ad_sd.specs.declared.parts.Sd.{Sd}
use Rattle.ad_sd.specs.declared.parts.SdParts.{SdParts}
use Rattle.ad_inherit.specs.Creation.{chosen}
use Rattle.ad_inherit.specs.Whole.{whole}
use Rattle.ad_schema.specs.declared.info.AttrId.{AttrId}
use Rattle.ad_schema.specs.Classes.{is_under, is_allowed}
use Rattle.ad_schema_defaults.specs.Defaults.{default_of}
use Rattle.ad_dir_objects.specs.declared.object.Object.{Object as ObjectIn}
use Rattle.ad_dir_objects.specs.Seen.{object_seen}
use Rattle.ad_dir_model.specs.Object.{Held, Object}
use Rattle.ad_dir_model.specs.Objects.{sd_at}
use Rattle.ad_dir_model.specs.Identity.{domain_sid}
use Rattle.ad_dir_model.specs.Directory.{Directory}
use Rattle.ad_dir_model.specs.Inheritance.{guid_at}
use Rattle.ad_dir_model.specs.Changes.{new_sid, numbered}
use Rattle.ad_needs_rules.specs.Checks.{Check, or_code}
use Rattle.ad_needs_rules.specs.Requests.{class_at}
use Rattle.ad_needs_rules.specs.Descriptors.{is_owner_allowed}
use Rattle.ad_change_values.specs.Values.{all_stored}
use Rattle.ad_change.specs.Adding.{held_before, attr_checks, has_musts}
use Rattle.ad_ldap.specs.ResultCodes.{constraint_violation, naming_violation, object_class_violation}

-- the values of an attribute are bytes
abbrev pub HasByteAttr : AttrId × List (List ℕ) → Type 0
HasByteAttr attr = AllByRecursion IsBytes attr.1

-- the attributes with their stored values, in the order in which they were sent
abbrev pub read_attr : Directory → AttrId × List (List ℕ) → Held
read_attr dir attr = record { attr = attr.0.0; values = all_stored dir attr.0.0 attr.1 }

abbrev pub all_read : Directory → List (AttrId × List (List ℕ)) → List Held
all_read dir values = map (read_attr dir) values

-- each attribute put before the others, from the last one on
unfoldable pub all_before : List Held → List Held → List Held
all_before [] others = others
all_before (held ∷ rest) others = held_before held.attr held.values (all_before rest others)

-- the checks of an addition but for the name and the limits
abbrev pub sent_checks : Directory → Token → ℕ → ℕ → List (AttrId × List (List ℕ)) → Option SdParts → List Check
sent_checks dir token parent class values sd =
    or_code (is_owner_allowed token sd) constraint_violation
    ∷ or_code (is_under dir.schema class (class_at dir parent)) naming_violation
    ∷ (flat_map (attr_checks dir) values
    ++ (or_code (list_all (λ attr. is_allowed dir.schema class attr.0.0) values) object_class_violation
    ∷ or_code (has_musts dir class values) object_class_violation
    ∷ []))

-- The object with its number and its identifier, but for its descriptor, and whether it gets one.
pub record IsNewObject (dir : Directory) (o : Object) (object : ObjectIn) (gets_sid : Bool) : Type 0 where
  pub seen : object_seen object o.sd ≡ numbered dir o
  pub gets : gets_sid ≡ is_some (new_sid dir o.class)

-- the descriptor that it has
abbrev pub new_whole : Directory → Token → ℕ → ℕ → Option SdParts → Sd
new_whole dir token parent class sd =
    whole (sd_at dir.objects parent) (chosen sd (default_of dir.schema (domain_sid dir) class) token.owner
    token.primary) (guid_at dir.schema class)
