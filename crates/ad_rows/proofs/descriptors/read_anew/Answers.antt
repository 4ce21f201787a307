use Rattle.std.proofs.Common.{arith}
use Rattle.ad_rows.proofs.Codec.{sd_is}
use Rattle.ad_rows.proofs.Reread.{sd_not}
use Rattle.ad_rows.proofs.descriptors.read_anew.Goals as goal

pub returns-in_ok-copy-in-Some : goal.returns-in_ok-copy-in-Some
returns-in_ok-copy-in-Some c = sd_is c.in-Some.sd c.args.bytes.now (rw c.in-Some.is at c.in_ok-sd.ensures)

pub returns-in-None : goal.returns-in-None
returns-in-None c = λ _. sd_not c.args.bytes.now (λ i. omega (arith, c.type_inv.bytes i))
    (rw c.in-None.is at c.in_ok-sd.ensures)
