-- Of each id its sharers and its bytes, and what a call makes of them.
use Rattle.std.specs.Prelude.{◌≡◌, ℕ, ◌+◌, true, ◌==◌, if◌then◌else◌, List, []}
use Rattle.std.specs.Option.{option_map_or}
use Rattle.sd_pool.specs.Blocks.{Extent}
use Rattle.sd_pool.specs.Pool.{extent_of, is_live}

-- how many share an id, 0 where it isn't live
unfoldable pub sharers_at : List Extent → ℕ → ℕ
sharers_at live id = option_map_or (λ extent. extent.sharers) (extent_of live id) 0

unfoldable pub bytes_at : List Extent → ℕ → List ℕ
bytes_at live id = option_map_or (λ extent. extent.bytes) (extent_of live id) []

-- the id has these bytes and one sharer more; the sharers of all others and the bytes of those that were live stay
pub record IsAdded (old new : List Extent) (id : ℕ) (bytes : List ℕ) : Type 0 where
  pub sharers : (other : ℕ) → sharers_at new other ≡ sharers_at old other + (if id == other then 1 else 0)
  pub kept : (other : ℕ) → is_live old other ≡ true → bytes_at new other ≡ bytes_at old other
  pub live : is_live new id ≡ true
  pub own : bytes_at new id ≡ bytes

-- the id has one sharer less; the sharers of all others and the bytes of those that are still live stay
pub record IsTaken (old new : List Extent) (id : ℕ) : Type 0 where
  pub sharers : (other : ℕ) → sharers_at new other + (if id == other then 1 else 0) ≡ sharers_at old other
  pub kept : (other : ℕ) → is_live new other ≡ true → bytes_at new other ≡ bytes_at old other
