use Rattle.std.proofs.Common.{◌≡◌, ◌<◌, ◌^◌}
use Rattle.byteorder.specs.Endian.{big_number}
use Rattle.ad_ber.proofs.finding.small_number.Given as goal

-- the number of the bytes so far
abbrev pub invariant-loop-digit : goal.invariant-loop-digit
invariant-loop-digit l = (l.number < 2 ^ 32) × (l.number ≡ big_number l.digit-index l.digits)
