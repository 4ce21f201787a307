use Rattle.gate_log.proofs.Outside.{touches_not}
use Rattle.gate_log.proofs.rewrite.close.Goals as goal

pub returns-clause-outside : goal.returns-clause-outside
returns-clause-outside g c = touches_not g.S.Site c.args.site.now
    (λ t images out left. g.met.S.Site.left_until c.args.site.now t images out left)
