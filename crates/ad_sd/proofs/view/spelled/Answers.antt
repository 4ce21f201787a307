use Rattle.std.proofs.Common.{arith}
use Rattle.ad_sd.proofs.NormalReader.{normal_spelled}
use Rattle.ad_sd.proofs.view.spelled.Goals as goal

pub returns : goal.returns
returns c = normal_spelled c.args.bytes.now (λ i. omega (arith, c.type_inv.bytes i)) c.requires
