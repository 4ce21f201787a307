-- Maps from keys to the numbers of objects that have exactly one entry for each object with a key.
use Rattle.std.specs.Prelude.{◌≡◌, ℕ, Option, Some, List}
use Rattle.std.specs.Map.{lookup, keys_of}
use Rattle.std.specs.List.{IsDistinct}
use Rattle.ad_ids.specs.SidValue.{SidValue, same_sid}
use Rattle.ad_schema.specs.declared.line.SchemaRecord.{SchemaRecord}
use Rattle.ad_dn.specs.Fold.{folded}
use Rattle.ad_dir_model.specs.Object.{Object}
use Rattle.ad_dir_model.specs.Objects.{object_of}
use Rattle.ad_dir_model.specs.Identity.{sid_in}
use Rattle.ad_dir_table.specs.declared.name_key.NameKey.{NameKey}
use Rattle.ad_dir_table.specs.NameKeys.{ChildName, same_key, name_at}

-- a live object of the number has the key
pub record HasKey {V : Type 0} (key : Object → Option V) (objects : List Object) (number : ℕ) (v : V) : Type 0 where
  pub object : Object
  pub live : object_of objects number ≡ Some object
  pub own : key object ≡ Some v

-- Each live object's number stands at its key, and what stands at a key is the number of a live object that has it.
pub record IsExact {V : Type 0} (key : Object → Option V) (at : V → Option ℕ) (objects : List Object) : Type 0 where
  pub each : (number : ℕ) (o : Object) (v : V) → object_of objects number ≡ Some o → key o ≡ Some v → at v ≡ Some number
  pub only : (number : ℕ) (v : V) → at v ≡ Some number → HasKey key objects number v

-- ---- names

-- the name of an object: its parent, 0 for the root, and its folded naming value
abbrev pub name_of : Object → Option ChildName
name_of o = Some (record { parent = o.parent; folded = folded o.name })

-- One entry for each live object, from its name to its number, and no other.
pub record AreNames (objects : List Object) (entries : List (NameKey × ℕ)) : Type 0 where
  pub exact : IsExact name_of (name_at entries) objects
  pub once : IsDistinct same_key (keys_of entries)

-- ---- identifiers

abbrev pub sid_at : List (SidValue × ℕ) → SidValue → Option ℕ
sid_at entries sid = lookup (same_sid sid) entries

-- One entry for each live object with an identifier, from it to the object's number, and no other.
pub record AreSids (schema : List SchemaRecord) (objects : List Object) (entries : List (SidValue × ℕ)) : Type 0 where
  pub exact : IsExact (sid_in schema) (sid_at entries) objects
  pub once : IsDistinct same_sid (keys_of entries)
