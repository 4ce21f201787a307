-- Which names of attributes and classes are told of an object at which one has rights.
use Rattle.std.specs.Prelude.{ℕ, zero, suc, Bool, false, not, ◌&&◌, ◌==◌, if◌then◌else◌, List, [], ◌∷◌, ◌++◌, length}
use Rattle.std.specs.Prelude.{slice_get}
use Rattle.std.specs.Option.{option_map_or}
use Rattle.ad_schema.specs.declared.line.SchemaRecord.{SchemaRecord}
use Rattle.ad_schema.specs.declared.info.AttrId.{AttrId}
use Rattle.ad_schema.specs.declared.info.AttrInfo.{AttrInfo}
use Rattle.ad_schema.specs.declared.info.ClassInfo.{ClassInfo}
use Rattle.ad_schema.specs.declared.meaning.RuleAttr.TheVariants as rule
use Rattle.ad_schema.specs.Attributes.{attrs_of}
use Rattle.ad_schema.specs.Classes.{classes_of, naming_of, is_allowed, is_under}
use Rattle.ad_schema.specs.Meaning.{is_computed, attr_is_back_link, attr_of_rule}
use Rattle.ad_schema_defaults.specs.NewClass.{is_structural, is_schema_class}
use Rattle.ad_constructed.specs.Rights.{RightsValue}

abbrev pub name_if : Bool → List ℕ → List (List ℕ)
name_if listed name = if listed then name ∷ [] else []

-- ---- attributes

-- the attribute of this place is the one that holds identifiers of objects
abbrev pub is_object_sid : List SchemaRecord → ℕ → Bool
is_object_sid schema place = option_map_or (λ (id : AttrId). id.0 == place) (attr_of_rule schema rule.ObjectSid) false

-- Whether its values can be replaced by one value, by who has the right. Nobody replaces what is made of the object
-- itself (objectClass, distinguishedName and name) or is no ordinary attribute (nTSecurityDescriptor), the naming
-- attribute of the class, the object's identifier, and back links.
unfoldable pub is_replaceable : List SchemaRecord → ℕ → ℕ → AttrInfo → Bool
is_replaceable schema class place info =
    not (is_computed info.name) && not (naming_of schema class == place) && not (is_object_sid schema place)
    && not (attr_is_back_link schema place)

-- An attribute is listed where objects of the class may have it, its values can be replaced, and one may write it.
abbrev pub is_listed : List SchemaRecord → ℕ → RightsValue → ℕ → AttrInfo → Bool
is_listed schema class rights place info = is_allowed schema class place && is_replaceable schema class place info
    && rights.may_write place

unfoldable pub attribute_at : List SchemaRecord → ℕ → RightsValue → ℕ → List (List ℕ)
attribute_at schema class rights place =
    option_map_or (λ (info : AttrInfo). name_if (is_listed schema class rights place info) info.name)
    (slice_get (attrs_of schema) place) []

-- of the first n attributes
unfoldable pub attributes_below : List SchemaRecord → ℕ → RightsValue → ℕ → List (List ℕ)
attributes_below schema class rights zero = []
attributes_below schema class rights (suc n) = attributes_below schema class rights n ++ attribute_at schema class
    rights n

-- The names of all that are listed, in schema order.
abbrev pub attributes : List SchemaRecord → ℕ → RightsValue → List (List ℕ)
attributes schema class rights = attributes_below schema class rights (length (attrs_of schema))

-- ---- classes of children

-- A class is listed where objects may have it, it is none of those that describe a schema, its objects may stand
-- below one of the class, and one may create them.
abbrev pub is_child_listed : List SchemaRecord → ℕ → RightsValue → ℕ → Bool
is_child_listed schema class rights place =
    is_structural schema place && not (is_schema_class schema place) && is_under schema place class
    && rights.may_create place

unfoldable pub child_at : List SchemaRecord → ℕ → RightsValue → ℕ → List (List ℕ)
child_at schema class rights place =
    option_map_or (λ (info : ClassInfo). name_if (is_child_listed schema class rights place) info.name)
    (slice_get (classes_of schema) place) []

-- of the first n classes
unfoldable pub children_below : List SchemaRecord → ℕ → RightsValue → ℕ → List (List ℕ)
children_below schema class rights zero = []
children_below schema class rights (suc n) = children_below schema class rights n ++ child_at schema class rights n

-- The names of all that are listed, in schema order.
abbrev pub children : List SchemaRecord → ℕ → RightsValue → List (List ℕ)
children schema class rights = children_below schema class rights (length (classes_of schema))
