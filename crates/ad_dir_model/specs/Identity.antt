-- Who objects are: their identifiers, and the domain's.
use Rattle.std.specs.Prelude.{ℕ, ◌-◌, Bool, false, Option, Some, None, List, find, length, slice_get}
use Rattle.std.specs.Option.{option_map, option_and_then}
use Rattle.ad_ids.specs.SidValue.{SidValue, same_sid}
use Rattle.ad_ids.specs.SidChild.{child_of}
use Rattle.ad_value.specs.Value.{Value}
use Rattle.ad_value.specs.ValueOf.{sid_of}
use Rattle.ad_schema.specs.declared.line.SchemaRecord.{SchemaRecord}
use Rattle.ad_dir_model.specs.Object.{Object, stored_in, first_plain}
use Rattle.ad_dir_model.specs.Objects.{object_at}
use Rattle.ad_dir_model.specs.Tree.{root}
use Rattle.ad_dir_model.specs.Attributes.{object_sid}
use Rattle.ad_dir_model.specs.Directory.{Directory}

-- the first stored value of an attribute that a rule names, where there is such an attribute
unfoldable pub first_of_attr : Option ℕ → Object → Option Value
first_of_attr attr o = option_and_then (λ place. first_plain (stored_in o.values place)) attr

-- the identifier of an object: the first value of its objectSid
unfoldable pub sid_in : List SchemaRecord → Object → Option SidValue
sid_in schema o = option_and_then (λ value. sid_of value.shown) (first_of_attr (object_sid schema) o)

-- that of an object by its number
abbrev pub self_sid : Directory → ℕ → Option SidValue
self_sid dir number = sid_in dir.schema (object_at dir.objects number)

-- the domain's identifier is the root's
unfoldable pub domain_sid : Directory → Option SidValue
domain_sid dir = self_sid dir root

-- the domain's identifier with one more number
unfoldable pub domain_child : Directory → ℕ → Option SidValue
domain_child dir rid = option_and_then (λ domain. child_of domain rid) (domain_sid dir)

-- ---- an object by its identifier

-- whether this is the identifier
abbrev pub is_sid : SidValue → Option SidValue → Bool
is_sid sid None = false
is_sid sid (Some other) = same_sid other sid

-- the object of an identifier
unfoldable pub with_sid : Directory → SidValue → Option ℕ
with_sid dir sid = option_map (λ o. o.number) (find (λ o. is_sid sid (sid_in dir.schema o)) dir.objects)

-- the last of the numbers, none where there are none
abbrev pub last_of : List ℕ → Option ℕ
last_of numbers = slice_get numbers (length numbers - 1)
