use Rattle.ad_access.proofs.NodeClosing.{Opened}
use Rattle.ad_access.proofs.closing.open_inner.Given as goal

abbrev pub invariant-loop-node : goal.invariant-loop-node
invariant-loop-node l = Opened l.nodes l.want l.fn.rights l.rights l.node-index
