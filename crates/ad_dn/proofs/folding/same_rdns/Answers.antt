use Rattle.ad_dn.proofs.SameNames.{same_lengths, same_at}
use Rattle.ad_dn.proofs.folding.same_rdns.Goals as goal

pub returns-then-a-b : goal.returns-then-a-b
returns-then-a-b c = (λ e. absurd cc, λ h. absurd (c.if-a-b.true (same_lengths c.args.a.now c.args.b.now h)))

pub returns-then-not-same_rdn : goal.returns-then-not-same_rdn
returns-then-not-same_rdn c = (
  λ e. absurd cc,
  λ h. c.if-not-same_rdn.ensures.1 (same_at c.loop-i.i c.args.a.now c.args.b.now c.index-a-i.result c.index-b-i.result
      h c.loop-i-test.true c.index-a-i.is c.index-b-i.is),
)
