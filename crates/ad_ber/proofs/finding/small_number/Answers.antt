use Rattle.std.proofs.Common.{◌≡◌, ◌+◌, ◌*◌, ◌≤◌, get_or, length, sym, arith}
use Rattle.byteorder.specs.Endian.{big_number}
use Rattle.ad_ber.proofs.Digits.{one_more, no_less}
use Rattle.ad_ber.proofs.finding.small_number.Goals as goal

pub returns-then-number-from : goal.returns-then-number-from
returns-then-number-from c =
    let bytes = c.args.digits.now in
    let i = c.loop-digit.digit-index in
    let next : big_number (i + 1) bytes ≡ big_number i bytes * 256 + get_or bytes i 0 = one_more i bytes in
    let end : big_number (i + 1) bytes ≤ big_number (length bytes) bytes = no_less (i + 1) (length bytes) bytes
    (omega arith) in
    omega (arith, c.loop-digit.invariant.1, c.from.ensures, c.from-in-loop-digit.ensures)

pub loop-digit-preserved : goal.loop-digit-preserved
loop-digit-preserved c =
    let bytes = c.args.digits.now in
    let i = c.loop-digit.digit-index in
    let next : big_number (i + 1) bytes ≡ big_number i bytes * 256 + get_or bytes i 0 = one_more i bytes in (
      omega (arith, c.from.ensures, c.from-in-loop-digit.ensures),
      omega
          (arith, c.loop-digit.invariant.1, c.from.ensures),
    )
