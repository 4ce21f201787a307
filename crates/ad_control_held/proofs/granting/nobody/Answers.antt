use Rattle.ad_control_held.proofs.Granted.{nobody}
use Rattle.ad_control_held.proofs.granting.nobody.Goals as goal

pub returns : goal.returns
returns c = λ tokens is.
    nobody tokens c.args.holding.now.takers.items c.count.result _ is.takers c.count.ensures
    (c.in_ok-vec.ensures.items_if_clones_equal (λ y same. same))
