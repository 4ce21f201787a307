-- Objects and a directory as the code has them.
use Rattle.std.specs.Prelude.{ℕ, zero, suc, ◌==◌, if◌then◌else◌, List, [], ◌∷◌, ◌++◌, map}
use Rattle.ad_sd.specs.declared.parts.Sd.{Sd}
use Rattle.ad_dir_objects.specs.declared.object.Object.{Object as HeldObject}
use Rattle.ad_dir_objects.specs.declared.edit.Meta.{Meta as HeldMeta}
use Rattle.ad_dir_objects.specs.declared.object.Stored.{Stored as StoredIn}
use Rattle.ad_dir_objects.specs.Seen.{object_seen, meta_seen, stored_seen}
use Rattle.ad_schema.specs.declared.line.SchemaRecord.{SchemaRecord}
use Rattle.ad_dir_model.specs.Directory.{Directory}
use Rattle.ad_dir_model.specs.Object.{Stored, Held, Object}
use Rattle.ad_load.specs.declared.before_inheritance.Before.{Before}

-- an object with its descriptor
abbrev pub entry_seen : HeldObject × Sd → Object
entry_seen entry = object_seen entry.0 entry.1

-- the directory of these parts, in which nothing is pending
abbrev pub parts_seen : List SchemaRecord → List (HeldObject × Sd) → HeldMeta → Directory
parts_seen schema objects meta = record {
  schema = schema;
  objects = map entry_seen objects;
  pending = [];
  meta
      = meta_seen meta;
}

-- the directory before its descriptors are computed
abbrev pub before_seen : List SchemaRecord → Before → Directory
before_seen schema l = record {
  schema = schema;
  objects = map entry_seen l.objects.items;
  pending = [];
  meta
      = meta_seen l.meta;
}

-- attributes, each with its values
abbrev pub by_attr : List (ℕ × List StoredIn) → List Held
by_attr entries = map (λ (entry : ℕ × List StoredIn). record { attr = entry.0; values = map stored_seen entry.1 })
    entries

-- one value more at the place of its attribute, or of the first one above it
unfoldable pub with_stored_at : ℕ → ℕ → Stored → List Held → List Held
with_stored_at place attr value [] = []
with_stored_at zero attr value (held ∷ others) =
    if held.attr == attr then record { attr = held.attr; values = held.values ++ value ∷ [] } ∷ others
    else record { attr = attr; values = value ∷ [] } ∷ held ∷ others
with_stored_at (suc place) attr value (held ∷ others) = held ∷ with_stored_at place attr value others
