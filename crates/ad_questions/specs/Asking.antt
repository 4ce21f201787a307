-- The requests that questions are about, as what is sent: by one item of a Modify, or by the name of an object.
use Rattle.std.specs.Prelude.{◌≡◌, ℕ, Bool, true, false, not, is_some, Option, Some, None, List, [], ◌∷◌, drop}
use Rattle.std.specs.List.{flat_map}
use Rattle.ad_ids.specs.declared.token.Token.{Token}
use Rattle.ad_sd.specs.declared.parts.SdParts.{SdParts}
use Rattle.ad_ldap.specs.declared.items.Item.{Item}
use Rattle.ad_ldap.specs.declared.requests.Add.{Add}
use Rattle.ad_ldap.specs.declared.requests.Modify.{Modify}
use Rattle.ad_schema_defaults.specs.NewClass.{is_schema_class}
use Rattle.ad_dir_model.specs.Attributes.{attr_place, member}
use Rattle.ad_dir_model.specs.Directory.{Directory}
use Rattle.ad_dir_model.specs.Names.{found}
use Rattle.ad_access_dir.specs.Passwords.{is_password}
use Rattle.ad_needs_rules.specs.Checks.{Refusal, code, hidden, missing, first_failing}
use Rattle.ad_needs_rules.specs.Requests.{is_name, parts_in, is_descriptor}
use Rattle.ad_needs_rules.specs.Descriptors.{has_owner_or_group}
use Rattle.ad_needs_rules.specs.Validated.{self_membership, validated_write}
use Rattle.ad_needs_rules.specs.Renaming.{is_typed}
use Rattle.ad_needs_rules.specs.Adding.{has_parts, is_root_named, all_naming_checks, new_class, new_part, descriptor_reads}
use Rattle.ad_needs_rules.specs.Adding.{own_checks, all_ordinary, brings_sacl, new_sd}
use Rattle.ad_needs_rules.specs.Modifying.{is_forced, written_sd, item_checks, modify_needs}
use Rattle.ad_questions.specs.declared.question.Question.{Question}
use Rattle.ad_questions.specs.Requests.{request_needs}

-- It is about the attribute of this place, which is no password, and by no validated write.
pub record IsOrdinary (dir : Directory) (token : Token) (number attr : ℕ) (item : Item) : Type 0 where
  pub named : attr_place dir.schema item.attr ≡ Some attr
  pub no_descriptor : is_descriptor item.attr ≡ false
  pub no_password : is_password item.attr ≡ false
  pub no_own : validated_write dir token number attr (item ∷ []) ≡ None

-- It replaces the password, without the old one.
pub record IsReset (item : Item) : Type 0 where
  pub no_descriptor : is_descriptor item.attr ≡ false
  pub password : is_password item.attr ≡ true
  pub forced : is_forced (item ∷ []) ≡ true

-- It adds the token's own account to the members.
pub record IsJoining (dir : Directory) (token : Token) (number attr : ℕ) (item : Item) : Type 0 where
  pub member : member dir.schema ≡ Some attr
  pub named : attr_place dir.schema item.attr ≡ Some attr
  pub no_descriptor : is_descriptor item.attr ≡ false
  pub no_password : is_password item.attr ≡ false
  pub own : validated_write dir token number attr (item ∷ []) ≡ Some self_membership

-- It replaces parts of the descriptor: these, of those that are asked for.
pub record IsOfParts (flags : ℕ) (item : Item) (owner dacl : Bool) : Type 0 where
  pub parts : SdParts
  pub descriptor : is_descriptor item.attr ≡ true
  pub written : written_sd (item ∷ []) flags ≡ Some parts
  pub has_owner : has_owner_or_group parts ≡ owner
  pub has_dacl : is_some parts.dacl ≡ dacl
  pub no_sacl : is_some parts.sacl ≡ false

-- a text is the name of the object, whoever sees it
pub record IsNameOf (dir : Directory) (number : ℕ) (text : List ℕ) : Type 0 where
  pub reads : is_name text ≡ true
  pub named : found dir (parts_in text) ≡ Some number

-- An Add of an object of the class below the object, whoever sees that, without a SACL, of which all checks hold that ask
-- for no right.
pub record IsAddOf (dir : Directory) (number class flags : ℕ) (a : Add) : Type 0 where
  pub has_parts : has_parts a ≡ true
  pub no_root : not (is_root_named dir a) ≡ true
  pub below : found dir (drop 1 (parts_in a.dn)) ≡ Some number
  pub known : first_failing (all_naming_checks dir.schema [] a.attrs) ≡ None
  pub class_is : new_class dir a ≡ Some class
  pub no_schema : not (is_schema_class dir.schema class) ≡ true
  pub typed : is_typed dir.schema class (new_part a) ≡ true
  pub reads : descriptor_reads a ≡ true
  pub own : first_failing (flat_map (own_checks dir.schema class (new_part a).value) (all_ordinary dir.schema a)) ≡ None
  pub no_sacl : brings_sacl (new_sd a flags) ≡ false

-- A Modify of the object, whoever sees it, of whose items all checks hold that ask for no right, and which needs what
-- the question asks for.
pub record IsModifyOf (dir : Directory) (token : Token) (question : Question) (number flags : ℕ) (m : Modify) : Type 0
  where
    pub name : IsNameOf dir number m.dn
    pub lawful : first_failing (flat_map (item_checks dir number flags m.items) m.items) ≡ None
    pub needed : request_needs dir question number ≡ modify_needs dir token number flags m.items

-- What is refused is refused for want of a right: the object isn't seen, or a required right is missing.
abbrev pub is_wanting : Option Refusal → Bool
is_wanting None = false
is_wanting (Some (code number)) = false
is_wanting (Some (hidden rdns)) = true
is_wanting (Some (missing need)) = true
