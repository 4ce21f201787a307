-- What a token has by its privileges, beside what is granted to its principals.
use Rattle.std.proofs.Common.{◌≡◌, ℕ, ◌^◌, ◌<◌, Bool, true, ◌&&◌, ◌||◌, arith}
use Rattle.std.specs.Prelude.{◌==◌, bit_and, if◌then◌else◌}
use Rattle.std.specs.Int.{bit_not, w32}
use Rattle.ad_acl.specs.Mask.{has_bit, mapped_has, write_owner, access_system_security}
use Rattle.ad_acl.proofs.MaskLaws.{has_bit-and, has_bit-not}
use Rattle.ad_access.specs.Privileges.{security, take_ownership}
use Rattle.ad_access.proofs.BitTests.{has_bit-system, by_privilege_or_holders}

pub privileges_or_holders : (wanted mapped privileges by_privilege bit : ℕ) (holders : Bool) → by_privilege < 2 ^ 32
    → bit < 32 → has_bit mapped bit ≡ mapped_has wanted bit → has_bit by_privilege bit ≡ has_bit mapped bit
    && (((bit == access_system_security) && has_bit privileges security)
    || ((bit == write_owner) && has_bit privileges take_ownership))
    → has_bit by_privilege bit || (has_bit
    (bit_and (bit_and mapped (bit_not w32 0x100_0000)) (bit_not w32 by_privilege)) bit && holders)
    ≡ mapped_has wanted bit && (if bit == access_system_security then has_bit privileges security
    else (if (bit == write_owner) && has_bit privileges take_ownership then true else holders))
privileges_or_holders wanted mapped privileges by_privilege bit holders small lt is by =
    simp (
      has_bit-and,
      has_bit-not 0x100_0000 bit (omega arith) lt,
      has_bit-not by_privilege bit small lt,
      by,
      is,
      has_bit-system bit lt,
    )
    (by_privilege_or_holders bit (mapped_has wanted bit) (has_bit privileges security)
    (has_bit privileges take_ownership) holders lt)
