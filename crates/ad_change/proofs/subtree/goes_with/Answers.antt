use Rattle.ad_change.proofs.SubtreeLaws.{stays_alone}
use Rattle.ad_change.proofs.subtree.goes_with.Goals as goal

pub returns-then-alone : goal.returns-then-alone
returns-then-alone c = stays_alone c.args.dir.now c.args.target c.args.number c.args.alone c.invariants.ensures.rise
    c.requires c.if-alone.true c.if-number-target.false
