use Rattle.std.proofs.Common.{arith, sym, ◌∙◌}
use Rattle.ad_sd.proofs.NormalReader.{normal_spelled, over_none}
use Rattle.ad_sd.proofs.view.SdView.over.Goals as goal

pub returns-then-is_normal-clause-some : goal.returns-then-is_normal-clause-some
returns-then-is_normal-clause-some c = normal_spelled c.args.bytes.now (λ i. omega (arith, c.type_inv.bytes i))
    (sym c.is_normal.ensures ∙ c.if-is_normal.true)

pub returns-else-is_normal-clause-none : goal.returns-else-is_normal-clause-none
returns-else-is_normal-clause-none c = λ sd s. over_none c.args.bytes.now c.is_normal.result sd c.is_normal.ensures
    c.if-is_normal.false s
