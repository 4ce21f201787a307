-- Words for how the items of a Modify are judged.
use Rattle.std.specs.Prelude.{◌≡◌, ℕ, ◌<◌, Bool, false, not, ◌==◌, ◌||◌, if◌then◌else◌, Option, Some, None, codes}
use Rattle.std.specs.Prelude.{List, [], ◌∷◌, ◌++◌, length}
use Rattle.std.specs.Prelude.{slice_index_or}
use Rattle.std.specs.Option.{option_map_or}
use Rattle.std.specs.List.{list_any, flat_map}
use Rattle.ad_ids.specs.declared.token.Token.{Token}
use Rattle.ad_dn.specs.declared.rdn.Rdn.{Rdn}
use Rattle.ad_ldap.specs.declared.items.Item.{Item}
use Rattle.ad_schema_classes.specs.Names.{same_name}
use Rattle.ad_schema.specs.declared.line.SchemaRecord.{SchemaRecord}
use Rattle.ad_schema.specs.Attributes.{attrs_of}
use Rattle.ad_schema.specs.Classes.{naming_of}
use Rattle.ad_schema.specs.Meaning.{attr_is_back_link}
use Rattle.ad_dir_objects.specs.declared.act.Act.{Act}
use Rattle.ad_dir_objects.specs.declared.act.Act.TheVariants as act
use Rattle.ad_dir_model.specs.Attributes.{attr_place, is_named, object_sid}
use Rattle.ad_dir_model.specs.Directory.{Directory}
use Rattle.ad_access_dir.specs.Sight.{visible_of, matched}
use Rattle.ad_needs_rules.specs.declared.outcome.Verdict.{Verdict}
use Rattle.ad_needs_rules.specs.declared.outcome.Verdict.TheVariants.{Hidden}
use Rattle.ad_needs_rules.specs.Needs.{Alternative}
use Rattle.ad_needs_rules.specs.Checks.{Check, or_code, all_met, first_failing, by_checks}
use Rattle.ad_needs_rules.specs.Requests.{is_descriptor, class_at}
use Rattle.ad_access_dir.specs.Passwords.{is_password}
use Rattle.ad_needs_rules.specs.Modifying.{items_of, is_forced, is_changed, item_checks, modify_needs}
use Rattle.ad_needs_rules.specs.Modifying.{written_sd, descriptor_needs, password_needs, ordinary_needs, act_items}
use Rattle.ad_ldap.specs.ResultCodes.{object_class_mods_prohibited, not_allowed_on_rdn, unwilling_to_perform}

-- ---- checks

-- the name or the place is nobody's to write
abbrev pub is_kept_from_all : List SchemaRecord → List ℕ → ℕ → Bool
is_kept_from_all schema name attr =
    same_name name (codes "distinguishedName") || (same_name name (codes "name")
    || (option_map_or (λ sid. sid == attr) (object_sid schema) false || attr_is_back_link schema attr))

-- the items of a password have one of its two forms
abbrev pub has_its_form : List Item → List ℕ → Bool
has_its_form items name = not (is_password name)
    || (is_forced (items_of items name) || is_changed (items_of items name))

-- the checks of an item after that of its place, which is there
abbrev pub placed_checks : Directory → ℕ → List Item → List ℕ → ℕ → List Check
placed_checks dir number items name attr =
    or_code (not (same_name name (codes "objectClass"))) object_class_mods_prohibited
    ∷ or_code (not (naming_of dir.schema (class_at dir number) == attr)) not_allowed_on_rdn
    ∷ or_code (not (is_kept_from_all dir.schema name attr)) unwilling_to_perform
    ∷ or_code (has_its_form items name) unwilling_to_perform
    ∷ []

-- ---- needs

-- each attribute of the schema has a flag, which is set where one of these has a name of it
pub record HaveFlags {X : Type 0} (name_of : X → List ℕ) (schema : List SchemaRecord) (flags : List Bool)
    (xs : List X) : Type 0 where
  pub len : length flags ≡ length (attrs_of schema)
  pub each : (place : ℕ) → place < length flags → slice_index_or flags place false
      ≡ list_any (λ x. is_named schema (name_of x) place) xs

-- where one of the items names it
abbrev pub AreNamed : List SchemaRecord → List Bool → List Item → Type 0
AreNamed schema flags items = HaveFlags (λ (item : Item). item.attr) schema flags items

-- where one of the attributes of an addition is it
abbrev pub AreSent : List SchemaRecord → List Bool → List (List ℕ × List (List ℕ)) → Type 0
AreSent schema flags attrs = HaveFlags (λ (attr : List ℕ × List (List ℕ)). attr.0) schema flags attrs

-- what the items of a name need
abbrev pub named_needs : Directory → Token → ℕ → ℕ → List Item → List ℕ → List (List Alternative)
named_needs dir token number flags items name =
    if is_descriptor name then descriptor_needs number (written_sd items flags)
    else (if is_password name then password_needs number (items_of items name)
    else ordinary_needs dir token number (items_of items name) (attr_place dir.schema name))

-- what is needed where an item is the first of its attribute
abbrev pub needs_if : Bool → List (List Alternative) → List (List Alternative)
needs_if first requirements = if first then requirements else []

-- ---- the verdict

-- what is asked for, on the object of the number
abbrev pub act_at : Directory → ℕ → List Item → ℕ → Act
act_at dir number items flags = act.Modify number (act_items dir.schema items) (written_sd items flags)

-- what is said of items on the object of the number
abbrev pub verdict_at : Directory → Token → ℕ → List Item → ℕ → Verdict
verdict_at dir token number items flags =
    by_checks (first_failing (flat_map (item_checks dir number flags items) items
    ++ all_met dir token (modify_needs dir token number flags items)))
    (act_at dir number items flags)

-- and on that which is found, where there is one
abbrev pub verdict_found : Directory → Token → List Rdn → List Item → ℕ → Option ℕ → Verdict
verdict_found dir token rdns items flags None = Hidden (record { rdns = matched dir token rdns })
verdict_found dir token rdns items flags (Some number) = verdict_at dir token number items flags

abbrev pub verdict_named : Directory → Token → List Rdn → List Item → ℕ → Verdict
verdict_named dir token rdns items flags = verdict_found dir token rdns items flags (visible_of dir token rdns)
