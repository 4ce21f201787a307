-- Which right a text asks for, and on which path.
use Rattle.std.specs.Prelude.{ℕ, ◌<◌, Bool, ◌==◌, ◌&&◌, ◌||◌, if◌then◌else◌, Option, Some, None, List, [], ◌∷◌}
use Rattle.std.specs.Prelude.{nat_lt, length, slice_get}
use Rattle.std.specs.Option.{option_map, option_and_then}
use Rattle.std.specs.Str.{bytes_eq}
use Rattle.ad_ids.specs.declared.guid.Guid.{Guid}
use Rattle.ad_acl.specs.declared.codes.Code.{Code}
use Rattle.ad_acl.specs.Codes.{right_codes}
use Rattle.ad_acl.specs.Mask.{create_child, delete_child, self_write, read_property, write_property, control_access}
use Rattle.ad_schema.specs.declared.line.SchemaRecord.{SchemaRecord}
use Rattle.ad_schema.specs.declared.info.AttrId.{AttrId}
use Rattle.ad_schema.specs.declared.info.ClassId.{ClassId}
use Rattle.ad_schema.specs.declared.info.ClassInfo.{ClassInfo}
use Rattle.ad_schema.specs.declared.info.RightInfo.{RightInfo}
use Rattle.ad_schema.specs.Attributes.{attr_named, attrs_of, rights_of}
use Rattle.ad_schema.specs.Classes.{class_named, classes_of}
use Rattle.ad_schema_classes.specs.Names.{same_name}
use Rattle.ad_types.specs.TypesOf.{path_of}
use Rattle.ad_dir_model.specs.Directory.{Directory}
use Rattle.ad_dir_model.specs.Objects.{object_at}
use Rattle.ad_questions.specs.declared.asked.On.{On}
use Rattle.ad_questions.specs.declared.asked.On.TheVariants.{Whole, OfAttribute, OfType}
use Rattle.ad_questions.specs.declared.asked.Asked.{Asked}

-- ---- codes

-- the place of the right of the letters
unfoldable pub bit_in : List Code → List ℕ → Option ℕ
bit_in [] letters = None
bit_in (code ∷ table) letters = if bytes_eq code.letters letters then Some code.place else bit_in table letters

-- it, where it is no generic right: one of the thirteen of objects and of their descriptors
abbrev pub asked_for : ℕ → Option ℕ
asked_for bit = if nat_lt bit 20 then Some bit else None

unfoldable pub bit_of : List ℕ → Option ℕ
bit_of letters = option_and_then asked_for (bit_in right_codes letters)

-- ---- names

-- the first right of the kind that has the name
unfoldable pub right_named : List RightInfo → ℕ → List ℕ → Option Guid
right_named [] kind name = None
right_named (r ∷ rights) kind name = if (r.accesses == kind) && same_name r.name name then Some r.guid
    else right_named rights kind name

-- the GUID of the class of a name
unfoldable pub class_guid : List SchemaRecord → List ℕ → Option Guid
class_guid schema name = option_and_then (λ (id : ClassId). option_map (λ (c : ClassInfo). c.guid)
    (slice_get (classes_of schema) id.0)) (class_named schema name)

abbrev pub on_attribute : Option AttrId → Option On
on_attribute attr = option_map (λ id. OfAttribute id) attr

abbrev pub on_type : Option Guid → Option On
on_type guid = option_map (λ id. OfType id) guid

abbrev pub is_property_right : ℕ → Bool
is_property_right bit = (bit == read_property) || (bit == write_property)

abbrev pub is_child_right : ℕ → Bool
is_child_right bit = (bit == create_child) || (bit == delete_child)

-- What a name after a right is of: to read and write properties it is an attribute, to create and delete children a
-- class, with control access an extended right (256) and with self write a validated write (8). No other right has a
-- name.
unfoldable pub named_on : List SchemaRecord → ℕ → List ℕ → Option On
named_on schema bit name =
    if is_property_right bit then on_attribute (attr_named schema name)
    else (if is_child_right bit then on_type (class_guid schema name)
    else (if bit == control_access then on_type (right_named (rights_of schema) 256 name)
    else (if bit == self_write then on_type (right_named (rights_of schema) 8 name)
    else None)))

-- ---- the text

abbrev pub asked : ℕ → On → Asked
asked bit on = record { bit = bit; on = on }

-- what stands after the letters of a right: nothing, or a colon and a name
unfoldable pub asked_behind : List SchemaRecord → ℕ → List ℕ → Option Asked
asked_behind schema bit [] = Some (asked bit Whole)
asked_behind schema bit (c ∷ name) = if c == 58 then option_map (asked bit) (named_on schema bit name) else None

unfoldable pub asked_of : List SchemaRecord → List ℕ → Option Asked
asked_of schema [] = None
asked_of schema (a ∷ []) = None
asked_of schema (a ∷ b ∷ behind) = option_and_then (λ bit. asked_behind schema bit behind) (bit_of (a ∷ b ∷ []))

-- ---- the path

-- of an object of the class
unfoldable pub path_on : List SchemaRecord → ClassId → On → List Guid
path_on schema class Whole = []
path_on schema class (OfAttribute id) = path_of schema class id
path_on schema class (OfType guid) = guid ∷ []

-- of an object, by its class
unfoldable pub path_at : Directory → ℕ → On → List Guid
path_at dir number on = path_on dir.schema (record { 0 = (object_at dir.objects number).class }) on

-- ---- what code keeps of it

-- an attribute is one of the schema
abbrev pub IsOn : List SchemaRecord → On → Type 0
IsOn schema Whole = Unit {0}
IsOn schema (OfAttribute id) = id.0 < length (attrs_of schema)
IsOn schema (OfType guid) = Unit {0}

-- and the right one of the thirteen
pub record IsAsked (schema : List SchemaRecord) (a : Asked) : Type 0 where
  pub bit : a.bit < 20
  pub on : IsOn schema a.on
