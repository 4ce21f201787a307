-- The slots of ids, and what a region and slots represent.
use Rattle.std.specs.Prelude.{◌≡◌, ℕ, zero, suc, ◌+◌, ◌*◌, ◌≤◌, true, Bool, not, ◌==◌, if◌then◌else◌, List, [], ◌∷◌}
use Rattle.std.specs.Prelude.{take, drop}
use Rattle.sd_pool.specs.declared.slot.Slot.{Slot}
use Rattle.sd_pool.specs.Blocks.{blocks_for, Extent}

-- a slot whose id is live
abbrev pub is_used : Slot → Bool
is_used slot = not (slot.sharers == 0)

abbrev pub bytes_of : List ℕ → Slot → List ℕ
bytes_of region slot = take slot.len (drop (64 * slot.block) region)

abbrev pub extent_in : List ℕ → ℕ → Slot → Extent
extent_in region id slot = record { id = id; block = slot.block; bytes = bytes_of region slot; sharers = slot.sharers }

-- the live ids, the first slot being that of this id
unfoldable pub live_from : ℕ → List ℕ → List Slot → List Extent
live_from id region [] = []
live_from id region (slot ∷ slots) =
    if is_used slot then extent_in region id slot ∷ live_from (id + 1) region slots
    else live_from (id + 1) region slots

-- the bytes of each live id lie in so many blocks
abbrev pub IsWithin : ℕ → Slot → Type 0
IsWithin blocks slot = is_used slot ≡ true → slot.block + blocks_for slot.len ≤ blocks

abbrev pub AreWithin : ℕ → List Slot → Type 0
AreWithin blocks [] = Unit {0}
AreWithin blocks (slot ∷ slots) = IsWithin blocks slot × AreWithin blocks slots

-- so many ids from the first on are live
abbrev pub AreUsedBelow : ℕ → List Slot → Type 0
AreUsedBelow zero slots = Unit {0}
AreUsedBelow (suc n) [] = ⊥
AreUsedBelow (suc n) (slot ∷ slots) = (is_used slot ≡ true) × AreUsedBelow n slots

-- ---- a list of live ids with one less, or with other sharers

unfoldable pub dropped : ℕ → List Extent → List Extent
dropped id [] = []
dropped id (extent ∷ others) = if extent.id == id then others else extent ∷ dropped id others

unfoldable pub with_sharers : ℕ → ℕ → List Extent → List Extent
with_sharers id sharers [] = []
with_sharers id sharers (extent ∷ others) = if extent.id == id then record extent { sharers = sharers } ∷ others
    else extent ∷ with_sharers id sharers others
