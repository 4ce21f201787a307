-- A pool that holds the descriptors of objects, and nothing else.
use Rattle.std.specs.Prelude.{◌≡◌, ℕ, true, is_some, Some, List, length}
use Rattle.ad_sd.specs.declared.parts.Sd.{Sd}
use Rattle.ad_sd.specs.Normal.{normal_bytes, SpellsNormal}
use Rattle.sd_pool.specs.Blocks.{Extent}
use Rattle.sd_pool.specs.Pool.{Pool, extent_of, with_bytes}
use Rattle.ad_dir_model.specs.Object.{Object}
use Rattle.ad_dir_model.specs.Objects.{object_of}
use Rattle.ad_dir_table.specs.Listing.{descriptor_count, holders}

-- the bytes of an id are the normal bytes of a descriptor, which as many objects have as share the id
pub record IsShared (objects : List Object) (extent : Extent) : Type 0 where
  pub sd : Sd
  pub normal : SpellsNormal sd extent.bytes
  pub sharers : extent.sharers ≡ holders sd objects

-- Each live id is that of a descriptor which as many objects have as share it. The descriptor of each object has an
-- id. There are as many live ids as different descriptors.
pub record IsPoolOf (objects : List Object) (pool : Pool) : Type 0 where
  pub shared : (id : ℕ) (extent : Extent) → extent_of pool.live id ≡ Some extent → IsShared objects extent
  pub own : (number : ℕ) (o : Object) → object_of objects number ≡ Some o
      → is_some (with_bytes pool.live (normal_bytes o.sd)) ≡ true
  pub count : length pool.live ≡ descriptor_count objects
