use Rattle.std.proofs.Common.{arith}
use Rattle.byteorder.specs.Numbers.{big_from-lt}
use Rattle.ad_bytes.proofs.input.first_48.Goals as goal

pub returns-clause-below : goal.returns-clause-below
returns-clause-below c = rw c.read_u48.ensures
    (big_from-lt 0 6 c.args.bytes.now (λ i. omega (arith, c.type_inv.bytes i)))
