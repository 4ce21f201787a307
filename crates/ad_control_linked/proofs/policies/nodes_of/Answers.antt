use Rattle.std.proofs.Common.{ℕ}
use Rattle.std.specs.Prelude.{nat_eq}
use Rattle.indexmap.specs.IndexMap.{get}
use Rattle.ad_control_linked.proofs.Nodes.{given_next}
use Rattle.ad_control_linked.proofs.policies.nodes_of.Goals as goal

pub loop-number-preserved : goal.loop-number-preserved
loop-number-preserved c =
    given_next (λ (n : ℕ). get nat_eq c.args.ground.now.objects n) c.args.numbers.now c.loop-number.found.items
    c.put_node.new.into.items c.loop-number.number-index c.loop-number-test.true c.loop-number.invariant
    c.in_ok-put_node.ensures
