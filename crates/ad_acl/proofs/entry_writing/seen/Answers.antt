use Rattle.std.proofs.Common.{arith}
use Rattle.ad_acl.proofs.entry_writing.seen.Goals as goal

pub returns-clause-fit : goal.returns-clause-fit
returns-clause-fit c = λ i. omega (arith, c.type_inv.bytes i)
