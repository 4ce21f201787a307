-- What the records of classes say.
use Rattle.std.specs.Prelude.{ℕ, ◌+◌, ◌^◌, Bool, false, ◌||◌, ◌==◌, List, [], ◌∷◌, ◌++◌, codes, Option, None}
use Rattle.std.specs.Prelude.{unwrap_or, map, filter_map, if◌then◌else◌}
use Rattle.std.specs.List.{list_any}
use Rattle.std.specs.Option.{option_map, option_and_then, option_to_list}
use Rattle.ad_ids.specs.declared.guid.Guid.{Guid}
use Rattle.ad_ids.specs.GuidText.{guid_of}
use Rattle.ad_schema.specs.declared.line.SchemaKind.TheVariants.{Attribute, Class}
use Rattle.ad_schema.specs.declared.line.Line.{Line}
use Rattle.ad_schema.specs.declared.line.SchemaRecord.{SchemaRecord}
use Rattle.ad_schema.specs.declared.field.Field.{Field}
use Rattle.ad_schema.specs.declared.field.Field.TheVariants as field
use Rattle.ad_schema.specs.declared.info.ClassId.{ClassId}
use Rattle.ad_schema.specs.declared.info.ClassInfo.{ClassInfo}
use Rattle.ad_schema_classes.specs.Names.{same_name}
use Rattle.ad_schema.specs.Numbers.{number_below}
use Rattle.ad_schema.specs.Fields.{value_of, text_of, values_of}
use Rattle.ad_schema.specs.Attributes.{no_guid, lines_of, names_of}
use Rattle.ad_schema_classes.specs.Names.{place_of}
use Rattle.ad_schema_classes.specs.Chains.{option_at, chain, naming_by, has_guid, contains, list_at, listed, set_of}

-- the class of a name
unfoldable pub class_named : List SchemaRecord → List ℕ → Option ClassId
class_named records name = option_map (λ n. record { 0 = n }) (place_of (names_of Class records) name)

-- ---- one class: what its record names, by place

-- The superclass. A class that is its own subClassOf has none.
unfoldable pub superclass : List (List ℕ) → List Line → Option ℕ
superclass classes lines =
    if same_name (text_of field.SubClassOf lines) (text_of field.DisplayName lines) then None
    else place_of classes (text_of field.SubClassOf lines)

-- its own naming attribute
unfoldable pub own_naming : List (List ℕ) → List Line → Option ℕ
own_naming attrs lines = option_and_then (place_of attrs) (value_of field.NamingAttribute lines)

-- the attributes or classes of its lines of two names
abbrev pub places_of : List (List ℕ) → Field → Field → List Line → List ℕ
places_of names field system lines = filter_map (place_of names) (values_of field system lines)

abbrev pub musts : List (List ℕ) → List Line → List ℕ
musts attrs lines = places_of attrs field.MustContain field.SystemMustContain lines

abbrev pub mays : List (List ℕ) → List Line → List ℕ
mays attrs lines = places_of attrs field.MayContain field.SystemMayContain lines

abbrev pub superiors : List (List ℕ) → List Line → List ℕ
superiors classes lines = places_of classes field.Superiors field.SystemSuperiors lines

-- its auxiliary classes and its superclass
unfoldable pub neighbours : List (List ℕ) → List Line → List ℕ
neighbours classes lines = places_of classes field.Auxiliary field.SystemAuxiliary lines
    ++ option_to_list (superclass classes lines)

-- ---- all classes

unfoldable pub superclasses : List SchemaRecord → List (Option ℕ)
superclasses records = map (superclass (names_of Class records)) (lines_of Class records)

unfoldable pub own_namings : List SchemaRecord → List (Option ℕ)
own_namings records = map (own_naming (names_of Attribute records)) (lines_of Class records)

unfoldable pub all_musts : List SchemaRecord → List (List ℕ)
all_musts records = map (musts (names_of Attribute records)) (lines_of Class records)

unfoldable pub all_mays : List SchemaRecord → List (List ℕ)
all_mays records = map (mays (names_of Attribute records)) (lines_of Class records)

unfoldable pub all_neighbours : List SchemaRecord → List (List ℕ)
all_neighbours records = map (neighbours (names_of Class records)) (lines_of Class records)

unfoldable pub all_superiors : List SchemaRecord → List (List ℕ)
all_superiors records = map (superiors (names_of Class records)) (lines_of Class records)

-- ---- the naming attribute

-- the class and all above it
unfoldable pub chain_of : List SchemaRecord → ℕ → List ℕ
chain_of records class = chain (superclasses records) class

-- the attribute cn, which is there
unfoldable pub cn_of : List (List ℕ) → ℕ
cn_of attrs = unwrap_or (place_of attrs (codes "cn")) 0

-- its rDNAttID, else that of its superclass, else cn
unfoldable pub naming_of : List SchemaRecord → ℕ → ℕ
naming_of records class = naming_by (superclasses records) (own_namings records) (cn_of (names_of Attribute records))
    class

-- ---- the infos

unfoldable pub class_guid : List Line → Guid
class_guid lines = unwrap_or (guid_of (text_of field.SchemaGuid lines)) no_guid

-- the info of a class with this superclass and this naming attribute
unfoldable pub class_info : Option ℕ → ℕ → List Line → ClassInfo
class_info above naming lines = record {
  name = text_of field.DisplayName lines;
  guid = class_guid lines;
  category = unwrap_or (option_and_then (number_below (2 ^ 8)) (value_of field.Category lines)) 1;
  above = option_map (λ n. record { 0 = n }) above;
  naming = record { 0 = naming };
  default_sd = value_of field.DefaultDescriptor lines;
}

-- those of the classes from place n on
unfoldable pub class_infos : List (Option ℕ) → List (Option ℕ) → ℕ → ℕ → List (List Line) → List ClassInfo
class_infos above own cn n [] = []
class_infos above own cn n (lines ∷ rest) = class_info (option_at above n) (naming_by above own cn n) lines
    ∷ class_infos above own cn (n + 1) rest

-- the classes, in file order: a ClassId is a place in this list
unfoldable pub classes_of : List SchemaRecord → List ClassInfo
classes_of records = class_infos (superclasses records) (own_namings records) (cn_of (names_of Attribute records)) 0
    (lines_of Class records)

-- ---- attributes of a class

-- must, of a class of the set
unfoldable pub is_must : List SchemaRecord → ℕ → ℕ → Bool
is_must records class attr = listed (set_of (all_neighbours records) class) 0 (all_musts records) attr

unfoldable pub is_may : List SchemaRecord → ℕ → ℕ → Bool
is_may records class attr = listed (set_of (all_neighbours records) class) 0 (all_mays records) attr

-- must or may, of a class of the set, or the naming attribute
unfoldable pub is_allowed : List SchemaRecord → ℕ → ℕ → Bool
is_allowed records class attr = is_must records class attr || is_may records class attr || naming_of records class
    == attr

-- ---- classes above and below

-- Whether an object of the child's class may stand below one of the parent's: a class of the child's chain names a
-- possible superior that is in the parent's chain.
unfoldable pub is_under : List SchemaRecord → ℕ → ℕ → Bool
is_under records child parent =
    list_any (λ class. list_any (contains (chain_of records parent)) (list_at (all_superiors records) class))
    (chain_of records child)

unfoldable pub class_guids : List SchemaRecord → List Guid
class_guids records = map class_guid (lines_of Class records)

-- whether the class or one above it has the GUID
unfoldable pub is_a : List SchemaRecord → ℕ → Guid → Bool
is_a records class guid = list_any (has_guid (class_guids records) guid) (chain_of records class)
