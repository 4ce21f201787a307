-- Rename and move: their checks after the controls, up to the required rights.
use Rattle.std.specs.Prelude.{ℕ, Bool, true, not, ◌==◌, if◌then◌else◌, Option, Some, None, is_some, unwrap_or, codes}
use Rattle.std.specs.Prelude.{List, [], ◌∷◌, ◌++◌}
use Rattle.std.specs.Option.{option_map_or, option_and_then}
use Rattle.ad_ids.specs.declared.token.Token.{Token}
use Rattle.ad_acl.specs.Mask.{create_child, write_property}
use Rattle.ad_dn.specs.declared.rdn.Rdn.{Rdn}
use Rattle.ad_ldap.specs.declared.requests.Rename.{Rename}
use Rattle.ad_schema_classes.specs.Names.{same_name}
use Rattle.ad_schema.specs.declared.line.SchemaRecord.{SchemaRecord}
use Rattle.ad_schema.specs.Classes.{naming_of}
use Rattle.ad_dir_objects.specs.declared.act.Act.{Act}
use Rattle.ad_dir_objects.specs.declared.act.Act.TheVariants as act
use Rattle.ad_dir_model.specs.Objects.{parent_at}
use Rattle.ad_dir_model.specs.Tree.{root}
use Rattle.ad_dir_model.specs.Attributes.{attr_place, attr_name}
use Rattle.ad_dir_model.specs.Directory.{Directory}
use Rattle.ad_dir_model.specs.Changes.{goes_with}
use Rattle.ad_needs_rules.specs.Needs.{Alternative, needs}
use Rattle.ad_needs_rules.specs.Checks.{Check, or_code, all_met}
use Rattle.ad_needs_rules.specs.Requests.{no_rdn, name_in, is_name, number_named, or_hidden, class_at, class_path}
use Rattle.ad_needs_rules.specs.Requests.{attr_path}
use Rattle.ad_needs_rules.specs.Deleting.{to_leave}
use Rattle.ad_ldap.specs.ResultCodes.{invalid_dn_syntax, unwilling_to_perform, naming_violation}

-- ---- what is asked for

abbrev pub one_part : List Rdn → Option Rdn
one_part (rdn ∷ []) = Some rdn
one_part _ = None

-- the new first part, where the text encodes exactly one
abbrev pub new_rdn : Rename → Option Rdn
new_rdn r = option_and_then one_part (name_in r.rdn)

-- the number of the new parent: that of the superior, or the present one where none is named
unfoldable pub new_parent : Directory → Token → Rename → ℕ
new_parent dir token r = option_map_or (number_named dir token) r.superior
    (parent_at dir.objects (number_named dir token r.dn))

-- ---- checks of the superior, where one is named

abbrev pub superior_reads : Option (List ℕ) → Bool
superior_reads superior = option_map_or is_name superior true

abbrev pub superior_seen : Directory → Token → Option (List ℕ) → List Check
superior_seen dir token None = []
superior_seen dir token (Some superior) = or_hidden dir token superior ∷ []

-- it is neither the object nor below it
abbrev pub superior_outside : Directory → Token → ℕ → Option (List ℕ) → Bool
superior_outside dir token number superior
    = option_map_or (λ text. not (goes_with dir number (number_named dir token text))) superior true

-- the type is the naming attribute of the class
abbrev pub is_typed : List SchemaRecord → ℕ → Rdn → Bool
is_typed schema class rdn = same_name rdn.kind (attr_name schema (naming_of schema class))

-- ---- needs

-- For another parent the object has to leave the old one and to be created below the new one.
abbrev pub move_needs : Directory → ℕ → ℕ → List (List Alternative)
move_needs dir number parent =
    if parent_at dir.objects number == parent then []
    else to_leave dir number ∷ (needs parent create_child (class_path dir.schema (class_at dir number)) ∷ []) ∷ []

-- WP on the attribute
abbrev pub to_write : Directory → ℕ → ℕ → List Alternative
to_write dir number attr = needs number write_property (attr_path dir.schema (class_at dir number) attr) ∷ []

-- WP on `name`, where the schema has it
abbrev pub name_needs : Directory → ℕ → Option ℕ → List (List Alternative)
name_needs dir number None = []
name_needs dir number (Some attr) = to_write dir number attr ∷ []

abbrev pub rename_needs : Directory → ℕ → ℕ → List (List Alternative)
rename_needs dir number parent =
    move_needs dir number parent
    ++ (to_write dir number (naming_of dir.schema (class_at dir number))
    ∷ name_needs dir number (attr_place dir.schema (codes "name")))

-- ---- checks

unfoldable pub rename_checks : Directory → Token → Rename → List Check
rename_checks dir token r =
    let number = number_named dir token r.dn in
    or_code (is_name r.dn) invalid_dn_syntax
    ∷ or_code (is_some (new_rdn r)) invalid_dn_syntax
    ∷ or_code (superior_reads r.superior) invalid_dn_syntax
    ∷ or_hidden dir token r.dn
    ∷ (superior_seen dir token r.superior
    ++ (or_code (not (number == root)) unwilling_to_perform
    ∷ or_code (is_typed dir.schema (class_at dir number) (unwrap_or (new_rdn r) no_rdn)) naming_violation
    ∷ or_code (superior_outside dir token number r.superior) unwilling_to_perform
    ∷ all_met dir token (rename_needs dir number (new_parent dir token r))))

abbrev pub rename_act : Directory → Token → Rename → Act
rename_act dir token r = act.Rename (number_named dir token r.dn) (new_parent dir token r)
    (unwrap_or (new_rdn r) no_rdn).value
