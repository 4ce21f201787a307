-- What is told of the rights to change an object, beside what a request to change it is answered.
use Rattle.std.specs.Prelude.{◌≡◌, ℕ, true, false, Some, List, [], ◌∷◌, slice_get}
use Rattle.ad_ids.specs.declared.token.Token.{Token}
use Rattle.ad_ldap.specs.declared.controls.Settings.{Settings}
use Rattle.ad_ldap.specs.declared.requests.Modify.{Modify}
use Rattle.ad_ldap.specs.MessageValue.{ModifyOf}
use Rattle.ad_schema.specs.declared.info.AttrInfo.{AttrInfo}
use Rattle.ad_schema.specs.Attributes.{attrs_of}
use Rattle.ad_dir_model.specs.Objects.{object_at}
use Rattle.ad_dir_model.specs.Attributes.{attr_place}
use Rattle.ad_dir_model.specs.Directory.{Directory}
use Rattle.ad_constructed.specs.Listed.{is_listed}
use Rattle.ad_constructed_dir.specs.Changing.{rights_at}
use Rattle.ad_needs_rules.specs.declared.outcome.Verdict.TheVariants.{Granted}
use Rattle.ad_needs_rules.specs.Requests.{is_name, object_named, is_descriptor}
use Rattle.ad_needs_rules.specs.Modifying.{modify_act}
use Rattle.ad_needs_rules.specs.Verdicts.{verdict_of}

-- the request that replaces all values of one attribute by one value
abbrev pub replacement : List ℕ → List ℕ → List ℕ → Modify
replacement dn attr value = record { dn = dn; items = record { op = 2; attr = attr; values = value ∷ [] } ∷ [] }

-- the text names the object, and the token sees it
pub record IsSeenAs (dir : Directory) (token : Token) (number : ℕ) (dn : List ℕ) : Type 0 where
  pub reads : is_name dn ≡ true
  pub named : object_named dir token dn ≡ Some number

-- An ordinary attribute of the schema, by its place and as its name finds it. The descriptor is none, whether the
-- schema names it or not.
pub record IsOrdinary (dir : Directory) (place : ℕ) (info : AttrInfo) : Type 0 where
  pub info_is : slice_get (attrs_of dir.schema) place ≡ Some info
  pub named : attr_place dir.schema info.name ≡ Some place
  pub ordinary : is_descriptor info.name ≡ false

-- its name is among those that are told to be writable
abbrev pub IsTold : Directory → Token → ℕ → ℕ → AttrInfo → Type 0
IsTold dir token number place info = is_listed dir.schema (object_at dir.objects number).class
    (rights_at dir token number) place info ≡ true

-- the name is that of an attribute that is told to be writable
pub record IsNameTold (dir : Directory) (token : Token) (number : ℕ) (name : List ℕ) : Type 0 where
  pub place : ℕ
  pub info : AttrInfo
  pub there : slice_get (attrs_of dir.schema) place ≡ Some info
  pub named : info.name ≡ name
  pub told : IsTold dir token number place info

-- whatever the value, the checks up to what is required grant its replacement by it
abbrev pub IsGrantedAny : Directory → Token → List ℕ → List ℕ → Type 0
IsGrantedAny dir token dn name = (value : List ℕ) (settings : Settings)
    → verdict_of dir token (ModifyOf (replacement dn name value)) settings
    ≡ Granted (modify_act dir token (replacement dn name value) settings.sd_flags)
