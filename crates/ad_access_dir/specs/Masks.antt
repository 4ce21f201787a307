-- Masks of what is granted.
use Rattle.std.specs.Prelude.{◌≡◌, ℕ, ◌<◌, Bool, ◌&&◌}
use Rattle.ad_acl.specs.Mask.{has_bit, mapped_has}

-- the mask has the wanted rights that are granted
pub record IsMask (want : ℕ) (grants : ℕ → Bool) (mask : ℕ) : Type 0 where
  pub bits : (bit : ℕ) → bit < 32 → has_bit mask bit ≡ mapped_has want bit && grants bit
