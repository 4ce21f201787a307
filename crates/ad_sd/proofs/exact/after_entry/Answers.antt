use Rattle.std.proofs.Common.{arith}
use Rattle.ad_sd.proofs.ExactCodec.{exactly_sized, not_exactly}
use Rattle.ad_sd.proofs.exact.after_entry.Goals as goal

pub returns-in-Some : goal.returns-in-Some
returns-in-Some c = exactly_sized c.args.bytes.now c.in-Some.size c.tail.result.now c.in-Some.ensures.some
    c.tail.ensures

pub returns-in-None : goal.returns-in-None
returns-in-None c = not_exactly c.args.bytes.now (λ i. omega (arith, c.type_inv.bytes i)) c.in-None.ensures.none
