-- A pool as the list of its live ids, by rising id, and what each call makes of it.
use Rattle.std.specs.Prelude.{◌≡◌, ℕ, ◌+◌, ◌-◌, ◌<◌, ◌≤◌, nat_lt, max, true, false, Bool, ◌==◌, if◌then◌else◌}
use Rattle.std.specs.Prelude.{Option, None, is_some, find, List, [], ◌∷◌, length}
use Rattle.std.specs.Str.{bytes_eq}
use Rattle.sd_pool.specs.Blocks.{blocks_for, Extent, IsRoom, IsLeastRoom}

-- the live ids, and the length of the region in blocks
pub record Pool : Type 0 where
  pub live : List Extent
  pub blocks : ℕ

-- ---- finding

abbrev pub has_id : ℕ → Extent → Bool
has_id id extent = extent.id == id

abbrev pub has_bytes : List ℕ → Extent → Bool
has_bytes bytes extent = bytes_eq extent.bytes bytes

-- the extent of an id that is live
unfoldable pub extent_of : List Extent → ℕ → Option Extent
extent_of live id = find (has_id id) live

abbrev pub is_live : List Extent → ℕ → Bool
is_live live id = is_some (extent_of live id)

-- the extent with these bytes
unfoldable pub with_bytes : List Extent → List ℕ → Option Extent
with_bytes live bytes = find (has_bytes bytes) live

-- no id below this one is free, and this one is
pub record IsLeastFree (live : List Extent) (id : ℕ) : Type 0 where
  pub free : is_live live id ≡ false
  pub least : (other : ℕ) → other < id → is_live live other ≡ true

-- ---- changing

-- an extent where its id belongs
unfoldable pub inserted : Extent → List Extent → List Extent
inserted extent [] = extent ∷ []
inserted extent (other ∷ others) = if nat_lt extent.id other.id then extent ∷ other ∷ others else other
    ∷ inserted extent others

-- one sharer more
unfoldable pub shared : ℕ → List Extent → List Extent
shared id [] = []
shared id (extent ∷ others) = if extent.id == id then record extent { sharers = extent.sharers + 1 } ∷ others
    else extent ∷ shared id others

-- one sharer less; with the last the id goes
unfoldable pub given_back : ℕ → List Extent → List Extent
given_back id [] = []
given_back id (extent ∷ others) =
    if extent.id == id then (if extent.sharers == 1 then others else record extent { sharers = extent.sharers - 1 }
    ∷ others)
    else extent ∷ given_back id others

abbrev pub with_live : List Extent → Pool → Pool
with_live live pool = record pool { live = live }

-- Bytes that weren't there are put: they get the least free id and the least room, and one sharer. The region grows
-- where the room passes it, to the end of the room.
pub record IsPut (old new : Pool) (id : ℕ) (bytes : List ℕ) : Type 0 where
  pub block : ℕ
  pub free : IsLeastFree old.live id
  pub room : IsLeastRoom old.live (blocks_for (length bytes)) block
  pub live : new.live ≡ inserted (record { id = id; block = block; bytes = bytes; sharers = 1 }) old.live
  pub blocks : new.blocks ≡ max old.blocks (block + blocks_for (length bytes))

-- ---- what holds of every pool

-- no block is one of two extents, and no bytes stand twice
abbrev pub AreApart : List Extent → Type 0
AreApart [] = Unit {0}
AreApart (extent ∷ others) = IsRoom others (blocks_for (length extent.bytes)) extent.block × AreApart others

abbrev pub AreDistinct : List Extent → Type 0
AreDistinct [] = Unit {0}
AreDistinct (extent ∷ others) = (with_bytes others extent.bytes ≡ None) × AreDistinct others

-- each id is above the one before it, from this one on, and each extent has a sharer and lies in the region
abbrev pub RiseFrom : ℕ → ℕ → List Extent → Type 0
RiseFrom id blocks [] = Unit {0}
RiseFrom id blocks (extent ∷ others) =
    (id ≤ extent.id) × (0 < extent.sharers) × (extent.block + blocks_for (length extent.bytes) ≤ blocks)
    × RiseFrom (extent.id + 1) blocks others

pub record IsPool (pool : Pool) : Type 0 where
  pub rise : RiseFrom 0 pool.blocks pool.live
  pub apart : AreApart pool.live
  pub distinct : AreDistinct pool.live
