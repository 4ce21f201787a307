use Rattle.ad_access.proofs.NodeClosing.{Closed}
use Rattle.ad_access.proofs.closing.close_upwards.Given as goal

abbrev pub invariant-loop-i : goal.invariant-loop-i
invariant-loop-i l = Closed l.nodes l.fn.rights l.rights l.i

abbrev pub decreases-loop-i : goal.decreases-loop-i
decreases-loop-i l = l.i
