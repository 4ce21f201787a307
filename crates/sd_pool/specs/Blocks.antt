-- Extents of a region of blocks, and the room between them.
use Rattle.std.specs.Prelude.{◌≡◌, ℕ, ◌+◌, ◌-◌, ◌/◌, ◌<◌, ◌≤◌, nat_le, nat_lt, Bool, false, ◌&&◌, List, length}
use Rattle.std.specs.List.{list_any}

-- A block has 64 bytes. Bytes take as many blocks as they need, and empty bytes take one.
unfoldable pub blocks_for : ℕ → ℕ
blocks_for len = (len - 1) / 64 + 1

-- A live id: the first block of its bytes, the bytes, and how many share them.
pub record Extent : Type 0 where
  pub id : ℕ
  pub block : ℕ
  pub bytes : List ℕ
  pub sharers : ℕ

-- the block is one of the extent's
unfoldable pub covers : Extent → ℕ → Bool
covers extent block = nat_le extent.block block && nat_lt block (extent.block + blocks_for (length extent.bytes))

-- the block is one of a live extent's
unfoldable pub covered : List Extent → ℕ → Bool
covered live block = list_any (λ extent. covers extent block) live

-- So many blocks from the first one on meet no live extent. The region may end before.
abbrev pub IsRoom : List Extent → ℕ → ℕ → Type 0
IsRoom live count first = (block : ℕ) → first ≤ block → block < first + count → covered live block ≡ false

-- the least block from which there is room
pub record IsLeastRoom (live : List Extent) (count first : ℕ) : Type 0 where
  pub room : IsRoom live count first
  pub least : (other : ℕ) → other < first → IsRoom live count other → ⊥
