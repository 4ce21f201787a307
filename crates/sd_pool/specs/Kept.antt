-- What a pool keeps in its fields, and what they represent.
use Rattle.std.specs.Prelude.{◌≡◌, ℕ, ◌+◌, ◌*◌, ◌^◌, ◌<◌, ◌≤◌, ◌-◌, ◌==◌, true, false, if◌then◌else◌}
use Rattle.std.specs.Prelude.{Option, None, Some, Result, Ok, Err, List, [], ◌∷◌, ◌++◌, length, get_or}
use Rattle.std.specs.Vec.{vec_capacity}
use Rattle.sd_pool.specs.declared.parts.Parts.{Parts}
use Rattle.sd_pool.specs.declared.parts.Spot.{Spot}
use Rattle.sd_pool.specs.Blocks.{blocks_for, Extent}
use Rattle.sd_pool.specs.Found.{FirstPasses}
use Rattle.sd_pool.specs.Pool.{Pool, AreApart, AreDistinct, with_bytes}
use Rattle.sd_pool.specs.declared.slot.Slot.{Slot}
use Rattle.sd_pool.specs.Slots.{is_used, bytes_of, live_from, AreWithin, AreUsedBelow}
use Rattle.sd_pool.specs.Holes.{AreHoles, suits, fit}
use Rattle.sd_pool.specs.Tallies.{AreTallied, hash}

abbrev pub live_of : Parts → List Extent
live_of parts = live_from 0 parts.region.items parts.slots.items

abbrev pub pool_of : Parts → Pool
pool_of parts = record { live = live_of parts; blocks = parts.blocks }

-- all but the numbers of hashes
pub record IsLaid (parts : Parts) : Type 0 where
  pub region : 64 * parts.blocks ≤ length parts.region.items
  pub within : AreWithin parts.blocks parts.slots.items
  pub apart : AreApart (live_of parts)
  pub distinct : AreDistinct (live_of parts)
  pub lowest : AreUsedBelow parts.lowest parts.slots.items
  pub ids : length parts.slots.items ≤ 2 ^ 32 - 1
  pub count : parts.live ≡ length (live_of parts)
  pub holes : AreHoles parts.holes.items (live_of parts) parts.blocks
  -- room for the hole that each give-back may add
  pub room : length parts.holes.items + parts.live ≤ vec_capacity parts.holes

pub record IsStoredPool (parts : Parts) : Type 0 where
  pub laid : IsLaid parts
  pub tallied : AreTallied parts.tallies (live_of parts)

-- ---- what searches over the slots answer

-- the slot of the id is used, and has these bytes
pub record IsHeldAt (region : List ℕ) (slots : List Slot) (bytes : List ℕ) (id : ℕ) : Type 0 where
  pub within : id < length slots
  pub used : (d : Slot) → is_used (get_or slots id d) ≡ true
  pub has : (d : Slot) → bytes_of region (get_or slots id d) ≡ bytes

-- it has them, or none has
abbrev pub FindsHolder : List ℕ → List Slot → List ℕ → Option ℕ → Type 0
FindsHolder region slots bytes None = with_bytes (live_from 0 region slots) bytes ≡ None
FindsHolder region slots bytes (Some id) = IsHeldAt region slots bytes id

-- it has them, or none has and this is their hash
abbrev pub FindsOrHashes : List ℕ → List Slot → List ℕ → Result ℕ ℕ → Type 0
FindsOrHashes region slots bytes (Ok id) = IsHeldAt region slots bytes id
FindsOrHashes region slots bytes (Err number) = (with_bytes (live_from 0 region slots) bytes ≡ None)
    × (number ≡ hash bytes)

-- all before the id are used, and it isn't, or is that of no slot
pub record FirstUnused (slots : List Slot) (id : ℕ) : Type 0 where
  pub within : id ≤ length slots
  pub below : AreUsedBelow id slots
  pub unused : (d : Slot) → id < length slots → is_used (get_or slots id d) ≡ false

-- ---- where new bytes are put

unfoldable pub with_slot : ℕ → List Slot → List Slot
with_slot id slots = if id == length slots then slots ++ record { block = 0; len = 0; sharers = 0 } ∷ [] else slots

-- a free id with a slot, and room for bytes of this length
pub record IsReady (parts : Parts) (len : ℕ) (spot : Spot) : Type 0 where
  pub id : FirstUnused parts.slots.items spot.id
  pub within : spot.id < length parts.slots.items
  pub small : spot.id < 2 ^ 32 - 1
  pub count : spot.count ≡ blocks_for len
  pub place : FirstPasses (suits parts.blocks spot.count) spot.place parts.holes.items
  pub block : spot.block ≡ fit parts.blocks spot.count parts.holes.items
  pub region : 64 * (spot.block + spot.count) ≤ length parts.region.items
  pub holes : length parts.holes.items + parts.live + 1 ≤ vec_capacity parts.holes
