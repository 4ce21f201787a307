-- What is known of an object before its links are: its name, its parent, its class, the values of its lines, and
-- its descriptor.
use Rattle.std.specs.Prelude.{ℕ, ◌+◌, Bool, true, false, ◌==◌, ◌&&◌, Option, List, [], ◌∷◌, find, position}
use Rattle.std.specs.Option.{option_map, option_and_then}
use Rattle.ad_ids.specs.SidValue.{SidValue}
use Rattle.ad_dn.specs.declared.rdn.Rdn.{Rdn}
use Rattle.ad_sd.specs.declared.parts.Sd.{Sd}
use Rattle.ad_value.specs.Value.{Value}
use Rattle.ad_value.specs.ValueOf.{sid_of}
use Rattle.ad_schema.specs.declared.line.SchemaRecord.{SchemaRecord}
use Rattle.ad_dir_model.specs.Attributes.{object_sid}
use Rattle.ad_dir_model.specs.Names.{same_rdn}

-- a value that was read, by its line, with the attribute's name as it is spelled there
pub record Given : Type 0 where
  pub line : ℕ
  pub spelled : List ℕ
  pub attr : ℕ
  pub value : Value

pub record Draft : Type 0 where
  pub rdns : List Rdn
  pub parent : ℕ
  pub class : ℕ
  pub given : List Given
  pub sd : Option Sd

-- ---- names

-- as many parts, each the same
unfoldable pub same_names : List Rdn → List Rdn → Bool
same_names [] [] = true
same_names (a ∷ as') (b ∷ bs) = same_rdn a b && same_names as' bs
same_names _ _ = false

abbrev pub has_name : List Rdn → Draft → Bool
has_name rdns draft = same_names draft.rdns rdns

-- The number of the object of a name. Objects are numbered from 1.
unfoldable pub number_named : List Draft → List Rdn → Option ℕ
number_named drafts rdns = option_map (λ place. place + 1) (position (has_name rdns) drafts)

-- the naming value
abbrev pub naming_value : List Rdn → List ℕ
naming_value [] = []
naming_value (rdn ∷ rdns) = rdn.value

-- ---- identifiers

abbrev pub is_given : ℕ → Given → Bool
is_given attr given = given.attr == attr

-- the first value of an attribute
unfoldable pub first_given : List Given → ℕ → Option Value
first_given given attr = option_map (λ g. g.value) (find (is_given attr) given)

-- the identifier that the first value of an attribute shows, where there is such an attribute
abbrev pub sid_at : Option ℕ → Draft → Option SidValue
sid_at place draft = option_and_then (λ value. sid_of value.shown) (option_and_then (first_given draft.given) place)

-- the identifier of an object: that of its objectSid, where that attribute counts
unfoldable pub draft_sid : List SchemaRecord → Draft → Option SidValue
draft_sid schema draft = sid_at (object_sid schema) draft
