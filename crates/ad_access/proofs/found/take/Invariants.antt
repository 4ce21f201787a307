use Rattle.ad_access.proofs.Taken.{Taken}
use Rattle.ad_access.proofs.found.take.Given as goal

abbrev pub invariant-loop-i : goal.invariant-loop-i
invariant-loop-i l = Taken l.nodes l.object l.rights l.allows l.fn.found l.found l.open l.i
