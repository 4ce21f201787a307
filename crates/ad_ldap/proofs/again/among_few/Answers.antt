use Rattle.std.proofs.Common.{◌∙◌, sym}
use Rattle.ad_ldap.proofs.StandsAgain.{new_at}
use Rattle.ad_ldap.proofs.again.among_few.Goals as goal

pub each-preserved : goal.each-preserved
each-preserved c =
    new_at c.args.controls.now c.each.i c.index-controls-i.result c.each-test.true c.each.invariant
    (sym c.has.ensures ∙ c.if-has.false)
