-- An object of a directory: its place, its class, its values and its descriptor.
use Rattle.std.specs.Prelude.{ℕ, Bool, ◌==◌, false, Option, Some, None, List, [], ◌∷◌, filter_map, find}
use Rattle.std.specs.Option.{option_map_or}
use Rattle.std.specs.List.{flat_map, list_any}
use Rattle.ad_ids.specs.SidValue.{SidValue}
use Rattle.ad_sd.specs.declared.parts.AceList.{AceList}
use Rattle.ad_sd.specs.declared.parts.Sd.{Sd}
use Rattle.ad_value.specs.Value.{Value}

-- A stored value: one that shows bytes and has a key, or the number of the object that it names.
pub data Stored : Type 0 where
  plain : Value → Stored
  link : ℕ → Stored

-- an attribute, by its place in the schema, with the values that an object has of it
pub record Held : Type 0 where
  pub attr : ℕ
  pub values : List Stored

-- Parent and number are those of objects; the class is a place in the schema; the name is the naming value.
pub record Object : Type 0 where
  pub number : ℕ
  pub parent : ℕ
  pub class : ℕ
  pub name : List ℕ
  pub values : List Held
  pub sd : Sd

-- ---- values

abbrev pub is_held : ℕ → Held → Bool
is_held attr held = held.attr == attr

-- the stored values of an attribute, in their order
unfoldable pub stored_in : List Held → ℕ → List Stored
stored_in values attr = option_map_or (λ held. held.values) (find (is_held attr) values) []

-- the object that a value names
abbrev pub linked : Stored → Option ℕ
linked (plain value) = None
linked (link number) = Some number

-- the objects that the values name
unfoldable pub links_in : List Held → List ℕ
links_in values = flat_map (λ held. filter_map linked held.values) values

-- the value that a stored one is, where it is no link
abbrev pub plain_value : Stored → Option Value
plain_value (plain value) = Some value
plain_value (link number) = None

-- The first stored value, where it is no link. A rule that asks for one value looks at this one alone.
abbrev pub first_plain : List Stored → Option Value
first_plain [] = None
first_plain (stored ∷ others) = plain_value stored

-- one of the values is a link to the object
abbrev pub is_link_to : ℕ → Stored → Bool
is_link_to number (plain value) = false
is_link_to number (link other) = other == number

abbrev pub names : ℕ → List Stored → Bool
names number values = list_any (is_link_to number) values

-- ---- what represents an object that isn't there

abbrev pub no_sid : SidValue
no_sid = record { authority = 0; sub_authorities = [] }

abbrev pub no_list : AceList
no_list = record { protected = false; entries = [] }

abbrev pub no_sd : Sd
no_sd = record { owner = no_sid; group = no_sid; dacl = no_list; sacl = no_list }

abbrev pub no_object : Object
no_object = record { number = 0; parent = 0; class = 0; name = []; values = []; sd = no_sd }
