-- Objects get their descriptors one after the other, each after its parent. Only for private contracts, invariants
-- and proofs.
use Rattle.std.specs.Prelude.{◌≡◌, ◌≢◌, ℕ, zero, suc, ◌-◌, ◌≤◌, ◌==◌, if◌then◌else◌, Some, unwrap_or, slice_get, List}
use Rattle.std.specs.Prelude.{[], ◌∷◌, map, Result, Ok}
use Rattle.ad_bytes.specs.Reading.{◌>>=◌}
use Rattle.ad_sd.specs.declared.parts.Sd.{Sd}
use Rattle.ad_inherit.specs.Whole.{explicit_part, whole}
use Rattle.ad_schema.specs.declared.line.SchemaRecord.{SchemaRecord}
use Rattle.ad_dir_model.specs.Object.{Object, no_object}
use Rattle.ad_dir_model.specs.Directory.{Meta, Directory}
use Rattle.ad_dir_model.specs.Inheritance.{guid_at}
use Rattle.ad_dir_model.specs.Loading.{from_root, recomputed}
use Rattle.ad_load_records.specs.declared.fault.LoadFault.{LoadFault}
use Rattle.ad_load_records.specs.Records.{Record}
use Rattle.ad_load_objects.specs.Objects.{drafts_of}
use Rattle.ad_load.specs.Links.{linked}

-- the object at a place stands after its parent
abbrev pub HasPlaceAbove : List Object → ℕ → Type 0
HasPlaceAbove objects place = (o : Object) → slice_get objects place ≡ Some o → place ≢ 0 → (1 ≤ o.parent)
    × (o.parent ≤ place)

-- numbers are places, counted from 1, and each object but the first stands after its parent
pub record AreInOrder (objects : List Object) : Type 0 where
  pub number : (place : ℕ) (o : Object) → slice_get objects place ≡ Some o → o.number ≡ suc place
  pub above : (place : ℕ) → HasPlaceAbove objects place

abbrev pub at_place : List Object → ℕ → Object
at_place objects place = unwrap_or (slice_get objects place) no_object

-- the descriptor of the object at a place, from that of its parent as it stands there
unfoldable pub settled_of : List SchemaRecord → List Object → ℕ → Sd
settled_of schema objects place =
    let o = at_place objects place in
    if place == 0 then explicit_part o.sd
    else whole (at_place objects (o.parent - 1)).sd o.sd (guid_at schema o.class)

unfoldable pub with_sd_at : ℕ → Sd → List Object → List Object
with_sd_at place sd [] = []
with_sd_at zero sd (o ∷ os) = record o { sd = sd } ∷ os
with_sd_at (suc place) sd (o ∷ os) = o ∷ with_sd_at place sd os

abbrev pub unsettled_with : List SchemaRecord → List Object → Meta → Directory
unsettled_with schema objects meta = record { schema = schema; objects = objects; pending = []; meta = meta }

-- each with its descriptor from the root
abbrev pub all_settled : Directory → List Object
all_settled dir = map (from_root dir) dir.objects

-- what is after the schema: objects, links, and inheritance
unfoldable pub made_of : List SchemaRecord → List Record → Result Directory LoadFault
made_of schema records = do
  drafts ← drafts_of schema records
  dir ← linked schema drafts
  Ok (recomputed dir)
