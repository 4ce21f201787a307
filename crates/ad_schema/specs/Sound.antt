-- Which lists of records a builder and a schema have, and what follows for what is looked up in them.
use Rattle.std.specs.Prelude.{◌≡◌, ℕ, ◌^◌, ◌<◌, Bool, true, ◌&&◌, List, [], ◌∷◌, ◌++◌, length, position, slice_get}
use Rattle.std.specs.Prelude.{is_ok, Some}
use Rattle.std.specs.Option.{option_map_or}
use Rattle.ad_ids.specs.declared.guid.Guid.{Guid}
use Rattle.ad_schema.specs.declared.line.SchemaKind.TheVariants.{Attribute, Class}
use Rattle.ad_schema.specs.declared.line.SchemaRecord.{SchemaRecord}
use Rattle.ad_schema.specs.Attributes.{names_of, attrs_of, rights_of}
use Rattle.ad_schema_classes.specs.Names.{place_of}
use Rattle.ad_ids.specs.Guid.{same_guid}
use Rattle.ad_schema_classes.specs.Chains.{option_at, ends_within}
use Rattle.ad_schema.specs.Classes.{superclasses, classes_of, naming_of, chain_of}
use Rattle.ad_schema.specs.Records.{added, finished, right_guids}

-- each record can be added after those before it
unfoldable pub all_added : List SchemaRecord → List SchemaRecord → Bool
all_added before [] = true
all_added before (r ∷ records) = is_ok (added before r.kind r.lines) && all_added (before ++ r ∷ []) records

-- the records of a builder: fewer than 2^32, one added after the other
pub record AreAdded (records : List SchemaRecord) : Type 0 where
  pub few : length records < 2 ^ 32
  pub added : all_added [] records ≡ true

-- the records of a schema: those of a builder that could be finished
pub record MakeSchema (records : List SchemaRecord) : Type 0 where
  pub added : AreAdded records
  pub finished : is_ok (finished records) ≡ true

-- ---- what follows

-- Each name of the list is found at its own place: no other is the same.
abbrev pub AreDistinct : List (List ℕ) → Type 0
AreDistinct names = (i : ℕ) (name : List ℕ) → slice_get names i ≡ Some name → place_of names name ≡ Some i

abbrev pub AreDistinctGuids : List Guid → Type 0
AreDistinctGuids guids = (i : ℕ) (guid : Guid) → slice_get guids i ≡ Some guid
    → position (λ other. same_guid other guid) guids ≡ Some i

-- no two attributes or classes have one name, and no two rights one GUID
pub record NamesAreDistinct (records : List SchemaRecord) : Type 0 where
  pub attrs : AreDistinct (names_of Attribute records)
  pub classes : AreDistinct (names_of Class records)
  pub rights : AreDistinctGuids (right_guids records)

-- what is named is there, and the chain of each class ends: it is the class, and then the chain of the one above
pub record ChainsEnd (records : List SchemaRecord) : Type 0 where
  pub above : (class superior : ℕ) → option_at (superclasses records) class ≡ Some superior → superior
      < length (classes_of records)
  pub naming : (class : ℕ) → naming_of records class < length (attrs_of records)
  pub ends : (class : ℕ) → class < length (classes_of records) → ends_within (superclasses records)
      (length (classes_of records)) class ≡ true
  pub step : (class : ℕ) → class < length (classes_of records)
      → chain_of records class ≡ class ∷ option_map_or (chain_of records)
      (option_at (superclasses records) class) []

-- there are fewer than 2^32 of each
pub record AreFew (records : List SchemaRecord) : Type 0 where
  pub attrs : length (attrs_of records) < 2 ^ 32
  pub classes : length (classes_of records) < 2 ^ 32
  pub rights : length (rights_of records) < 2 ^ 32
