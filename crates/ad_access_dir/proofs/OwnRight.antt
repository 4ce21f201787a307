-- A right that isn't generic is its own after mapping.
use Rattle.std.proofs.Common.{◌≡◌, ℕ, ◌<◌, ◌^◌, true, refl}
use Rattle.std.specs.Prelude.{nat_lt}
use Rattle.std.proofs.lemmas.Bool.{lt-ltb}
use Rattle.std.proofs.lemmas.Nat.Bits.{bit_at-pow_same}
use Rattle.ad_acl.specs.Mask.{has_bit, mapped_has}

pub mapped_own : (mask bit : ℕ) → mask ≡ 2 ^ bit → bit < 28 → mapped_has mask bit ≡ true
unfolding has_bit
mapped_own mask bit is less =
    let less_is : nat_lt bit 28 ≡ true = lt-ltb bit 28 less in
    rw (is, bit_at-pow_same bit, less_is) refl
