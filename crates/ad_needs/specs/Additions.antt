-- Add, by what its name and its class represent.
use Rattle.std.specs.Prelude.{ℕ, not, Option, Some, None, is_some, option_map, codes, List, [], ◌∷◌, ◌++◌}
use Rattle.std.specs.Option.{option_map_or}
use Rattle.std.specs.List.{list_any, flat_map}
use Rattle.ad_ids.specs.declared.token.Token.{Token}
use Rattle.ad_sd.specs.declared.parts.SdParts.{SdParts}
use Rattle.ad_dn.specs.declared.rdn.Rdn.{Rdn}
use Rattle.ad_ldap.specs.declared.requests.Add.{Add}
use Rattle.ad_schema.specs.declared.line.SchemaRecord.{SchemaRecord}
use Rattle.ad_dir_objects.specs.declared.act.Act.{Act}
use Rattle.ad_dir_objects.specs.declared.act.Act.TheVariants as act
use Rattle.ad_dir_model.specs.Directory.{Directory}
use Rattle.ad_needs_rules.specs.declared.outcome.Verdict.{Verdict}
use Rattle.ad_needs_rules.specs.Checks.{Check, first_failing, or_code, all_met, by_checks}
use Rattle.ad_needs_rules.specs.Requests.{is_descriptor}
use Rattle.ad_needs_rules.specs.Descriptors.{sd_in_one}
use Rattle.ad_schema_defaults.specs.NewClass.{is_schema_class}
use Rattle.ad_needs_rules.specs.Renaming.{is_typed}
use Rattle.ad_needs_rules.specs.Adding.{is_of, sent, all_naming_checks, new_class, class_number, descriptor_reads}
use Rattle.ad_needs_rules.specs.Adding.{new_sd}
use Rattle.ad_needs_rules.specs.Adding.{ordinary}
use Rattle.ad_needs_rules.specs.Adding.{all_ordinary, own_checks, new_values, add_needs}
use Rattle.ad_ldap.specs.ResultCodes.{undefined_attribute_type, attribute_or_value_exists, unwilling_to_perform}
use Rattle.ad_ldap.specs.ResultCodes.{naming_violation, constraint_violation, object_class_violation}

-- the parts of the descriptor that is sent, where it reads; none where none is sent
unfoldable pub sd_sent : Add → Option (Option SdParts)
sd_sent a = option_map_or (λ values. option_map Some (sd_in_one values)) (sent a (codes "nTSecurityDescriptor"))
    (Some None)

-- those of the name of an attribute that the schema doesn't have
abbrev pub unplaced_checks : List (List ℕ × List (List ℕ)) → List ℕ → List Check
unplaced_checks earlier name =
    or_code (is_descriptor name) undefined_attribute_type
    ∷ or_code (not (list_any (is_of name) earlier)) attribute_or_value_exists
    ∷ []

-- the checks of one attribute, where it is an ordinary one
unfoldable pub checks_of : List SchemaRecord → ℕ → List ℕ → List ℕ × List (List ℕ) → List Check
checks_of schema class value attr = option_map_or (own_checks schema class value) (ordinary schema attr) []

-- ---- after the class

unfoldable pub class_checks : Directory → Token → ℕ → Rdn → ℕ → Add → ℕ → List Check
class_checks dir token parent rdn class a flags =
    or_code (not (is_schema_class dir.schema class)) unwilling_to_perform
    ∷ or_code (is_typed dir.schema class rdn) naming_violation
    ∷ or_code (descriptor_reads a) constraint_violation
    ∷ (flat_map (own_checks dir.schema class rdn.value) (all_ordinary dir.schema a)
    ++ all_met dir token (add_needs dir parent class (new_sd a flags)))

abbrev pub act_of : Directory → ℕ → Rdn → ℕ → Add → ℕ → Act
act_of dir parent rdn class a flags = act.Add parent (record { 0 = class }) rdn.value (new_values dir.schema class a)
    (new_sd a flags)

unfoldable pub class_judged : Directory → Token → ℕ → Rdn → ℕ → Add → ℕ → Verdict
class_judged dir token parent rdn class a flags =
    by_checks (first_failing (class_checks dir token parent rdn class a flags)) (act_of dir parent rdn class a flags)

-- ---- after the name

unfoldable pub below_judged : Directory → Token → ℕ → Rdn → Add → ℕ → Verdict
below_judged dir token parent rdn a flags =
    by_checks (first_failing (all_naming_checks dir.schema [] a.attrs
    ++ (or_code (is_some (new_class dir a)) object_class_violation
    ∷ class_checks dir token parent rdn (class_number dir a) a flags)))
    (act_of dir parent rdn (class_number dir a) a flags)
