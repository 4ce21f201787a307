use Rattle.ad_acl.proofs.MaskLaws.{stood_none, stood_all}
use Rattle.ad_acl.proofs.mask.stood_for.Goals as goal

pub returns-then-mask-generic-eq0 : goal.returns-then-mask-generic-eq0
returns-then-mask-generic-eq0 c = λ place bit is. stood_none c.args.mask c.args.generic c.args.rights place bit is
    c.if-mask-generic-eq0.true

pub returns-else-mask-generic-eq0 : goal.returns-else-mask-generic-eq0
returns-else-mask-generic-eq0 c = λ place bit is. stood_all c.args.mask c.args.generic c.args.rights place bit is
    c.if-mask-generic-eq0.false
