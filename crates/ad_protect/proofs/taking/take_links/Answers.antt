use Rattle.std.proofs.Common.{false, refl}
use Rattle.ad_protect.proofs.Sets.{takes_none}
use Rattle.ad_protect.proofs.Steps.{take_named, take_named_end}
use Rattle.ad_protect.proofs.taking.take_links.Goals as goal

pub loop-value-init : goal.loop-value-init
loop-value-init c = takes_none (λ n. false) c.args.taken.now.keys (λ n. refl)

pub loop-value-preserved : goal.loop-value-preserved
loop-value-preserved c =
    take_named c.args.values.now c.loop-value.value-index c.value-item.result c.args.taken.now.keys
    c.loop-value.taken.keys c.take_linked.new.taken.keys
    c.loop-value-test.true c.value-item.is c.loop-value.invariant c.in_ok-take_linked.ensures

pub returns : goal.returns
returns c =
    take_named_end c.args.values.now c.loop-value.value-index c.args.taken.now.keys c.loop-value.taken.keys
    c.loop-value-test.false c.loop-value.invariant
