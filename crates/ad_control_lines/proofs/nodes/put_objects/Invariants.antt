use Rattle.ad_chains.specs.Ways.{way_at}
use Rattle.ad_control.specs.Lines.{IsObjectLine}
use Rattle.ad_control_lines.proofs.Putting.{SoFar}
use Rattle.ad_control_lines.proofs.nodes.put_objects.Given as goal

-- those so far
abbrev pub invariant-loop-x : goal.invariant-loop-x
invariant-loop-x l = SoFar (λ x line. IsObjectLine l.dir l.nodes l.ways x (way_at l.ways x) line) l.x l.fn.into.items
    l.into.items
