-- The classes of which a token is told that it may create objects below one, beside what a request to add one is
-- answered.
use Rattle.std.specs.Prelude.{◌≡◌, ℕ, true, not, is_none, Option, Some, None, unwrap_or, codes, List, [], ◌∷◌, ◌++◌}
use Rattle.std.specs.Prelude.{slice_get}
use Rattle.std.specs.Option.{option_and_then}
use Rattle.std.specs.List.{list_all, flat_map}
use Rattle.ad_ids.specs.declared.token.Token.{Token}
use Rattle.ad_acl.specs.Mask.{create_child}
use Rattle.ad_sd.specs.declared.parts.SdParts.{SdParts}
use Rattle.ad_ldap.specs.declared.controls.Settings.{Settings}
use Rattle.ad_ldap.specs.declared.requests.Add.{Add}
use Rattle.ad_schema.specs.declared.info.AttrId.{AttrId}
use Rattle.ad_schema.specs.declared.info.ClassInfo.{ClassInfo}
use Rattle.ad_schema.specs.Classes.{classes_of, is_under, is_allowed}
use Rattle.ad_schema_defaults.specs.NewClass.{classes_named, lowest_of, is_structural, is_schema_class}
use Rattle.ad_constructed.specs.Listed.{is_child_listed}
use Rattle.ad_constructed_dir.specs.Changing.{rights_at}
use Rattle.ad_dir_model.specs.Objects.{object_at}
use Rattle.ad_dir_model.specs.Directory.{Directory}
use Rattle.ad_dir_model.specs.Names.{child_named}
use Rattle.ad_needs_rules.specs.Checks.{Check, Refusal, first_failing, or_code, or_missing, all_met, refused}
use Rattle.ad_needs_rules.specs.Needs.{needs}
use Rattle.ad_needs_rules.specs.Requests.{class_at, class_path}
use Rattle.ad_needs_rules.specs.Descriptors.{is_owner_allowed}
use Rattle.ad_needs_rules.specs.Renaming.{is_typed}
use Rattle.ad_needs_rules.specs.Adding.{has_parts, new_part, is_root_named, parent_named, parent_number, parent_seen}
use Rattle.ad_needs_rules.specs.Adding.{sent}
use Rattle.ad_needs_rules.specs.Adding.{all_naming_checks, class_number, descriptor_reads, new_sd, brings_sacl}
use Rattle.ad_needs_rules.specs.Adding.{new_values}
use Rattle.ad_needs_rules.specs.Adding.{all_ordinary, own_checks, sacl_needs, add_act}
use Rattle.ad_change.specs.Adding.{attr_checks, has_musts, fits_in, new_object}
use Rattle.ad_change.specs.Effects.{Effect, by_later, told}

-- its name is among those of the classes of which the token may create objects below this one
abbrev pub IsChildTold : Directory → Token → ℕ → ℕ → Type 0
IsChildTold dir token number class = is_child_listed dir.schema (object_at dir.objects number).class
    (rights_at dir token number) class ≡ true

-- the name is that of a class that is told
pub record IsChildNameTold (dir : Directory) (token : Token) (number : ℕ) (name : List ℕ) : Type 0 where
  pub class : ℕ
  pub info : ClassInfo
  pub there : slice_get (classes_of dir.schema) class ≡ Some info
  pub named : info.name ≡ name
  pub told : IsChildTold dir token number class

-- ---- the class of a request

-- the lowest of the classes that its objectClass names, be it structural, abstract or auxiliary
abbrev pub class_sent : Directory → Add → Option ℕ
class_sent dir a = option_and_then (lowest_of dir.schema)
    (classes_named dir.schema (unwrap_or (sent a (codes "objectClass")) []))

-- The request adds an object of the class below the object of the number, which the token sees.
pub record IsAddOf (dir : Directory) (token : Token) (number class : ℕ) (a : Add) : Type 0 where
  pub below : parent_named dir token a ≡ Some number
  pub class_is : class_sent dir a ≡ Some class

-- ---- the checks of an Add that ask for its class

-- It is neither abstract nor auxiliary, it describes no schema, CC is granted for it on the parent, and it is lawful
-- below the parent's class.
unfoldable pub class_own : Directory → Token → ℕ → ℕ → List Check
class_own dir token number class =
    or_code (is_structural dir.schema class) 65
    ∷ or_code (not (is_schema_class dir.schema class)) 53
    ∷ or_missing dir token (needs number create_child (class_path dir.schema class) ∷ [])
    ∷ or_code (is_under dir.schema class (class_at dir number)) 64
    ∷ []

-- ---- the others

-- those up to the required rights, of which AS is left
unfoldable pub other_checks : Directory → Token → Add → ℕ → List Check
other_checks dir token a flags =
    let class = class_number dir a in
    or_code (has_parts a) 34
    ∷ or_code (not (is_root_named dir a)) 68
    ∷ parent_seen dir token a
    ∷ (all_naming_checks dir.schema [] a.attrs
    ++ (or_code (is_typed dir.schema class (new_part a)) 64
    ∷ or_code (descriptor_reads a) 19
    ∷ (flat_map (own_checks dir.schema class (new_part a).value) (all_ordinary dir.schema a)
    ++ all_met dir token (sacl_needs (parent_number dir token a) (brings_sacl (new_sd a flags))))))

-- those after the required rights
unfoldable pub other_later : Directory → Token → ℕ → ℕ → List ℕ → List (AttrId × List (List ℕ)) → Option SdParts
    → List Check
other_later dir token parent class name values sd =
    or_code (is_owner_allowed token sd) 19
    ∷ (flat_map (attr_checks dir) values
    ++ (or_code (list_all (λ attr. is_allowed dir.schema class attr.0.0) values) 65
    ∷ or_code (has_musts dir class values) 65
    ∷ or_code (is_none (child_named dir.objects parent name)) 68
    ∷ or_code (fits_in dir (new_object dir token parent class name values sd)) 11
    ∷ []))

abbrev pub after_others : Directory → Token → Add → ℕ → Option Refusal → Effect
after_others dir token a flags None =
    let class = class_number dir a in
    by_later dir token (add_act dir token a flags) (first_failing (other_later dir token (parent_number dir token a)
    class (new_part a).value (new_values dir.schema class a) (new_sd a flags)))
after_others dir token a flags (Some refusal) = told dir (refused refusal)

-- what the request makes of the directory by these alone
unfoldable pub by_others : Directory → Token → Add → Settings → Effect
by_others dir token a settings = after_others dir token a settings.sd_flags
    (first_failing (other_checks dir token a settings.sd_flags))

-- ---- an Add that is done

-- its class is among those that were told at its parent
pub record IsOfToldClass (dir : Directory) (token : Token) (a : Add) : Type 0 where
  pub number : ℕ
  pub class : ℕ
  pub adds : IsAddOf dir token number class a
  pub told : IsChildTold dir token number class
