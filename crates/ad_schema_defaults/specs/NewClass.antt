-- The class of a new object, by the values of its objectClass: the rule of loading.
use Rattle.std.specs.Prelude.{ℕ, Bool, false, not, ◌==◌, ◌&&◌, ◌||◌, if◌then◌else◌, Option, Some, None, codes, List}
use Rattle.std.specs.Prelude.{[], ◌∷◌, find, slice_get}
use Rattle.std.specs.Option.{option_map, option_map_or, option_and_then}
use Rattle.std.specs.List.{list_all}
use Rattle.ad_schema_classes.specs.Names.{same_name}
use Rattle.ad_schema_classes.specs.Chains.{contains}
use Rattle.ad_schema.specs.declared.line.SchemaRecord.{SchemaRecord}
use Rattle.ad_schema.specs.Classes.{classes_of, class_named, chain_of}

abbrev pub class_place : List SchemaRecord → List ℕ → Option ℕ
class_place schema name = option_map (λ id. id.0) (class_named schema name)

-- the classes of these names, where each names one
unfoldable pub classes_named : List SchemaRecord → List (List ℕ) → Option (List ℕ)
classes_named schema [] = Some []
classes_named schema (name ∷ names) = option_and_then
    (λ class. option_map (λ classes. class ∷ classes) (classes_named schema names)) (class_place schema name)

-- the one whose chain has all of them
unfoldable pub lowest_of : List SchemaRecord → List ℕ → Option ℕ
lowest_of schema classes = find (λ class. list_all (contains (chain_of schema class)) classes) classes

-- neither abstract (2) nor auxiliary (3)
unfoldable pub is_structural : List SchemaRecord → ℕ → Bool
is_structural schema class = option_map_or (λ info. not (info.category == 2) && not (info.category == 3))
    (slice_get (classes_of schema) class) false

unfoldable pub if_structural : List SchemaRecord → ℕ → Option ℕ
if_structural schema class = if is_structural schema class then Some class else None

unfoldable pub class_by_names : List SchemaRecord → List (List ℕ) → Option ℕ
class_by_names schema names = option_and_then (if_structural schema)
    (option_and_then (lowest_of schema) (classes_named schema names))

-- the class is one of those that describe a schema
abbrev pub is_of_schema : List ℕ → Bool
is_of_schema name =
    same_name name (codes "attributeSchema") || same_name name (codes "classSchema")
    || same_name name (codes "controlAccessRight")

abbrev pub is_schema_class : List SchemaRecord → ℕ → Bool
is_schema_class schema class = option_map_or (λ info. is_of_schema info.name) (slice_get (classes_of schema) class)
    false
