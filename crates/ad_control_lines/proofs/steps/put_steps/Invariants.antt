use Rattle.ad_chains.specs.Ways.{way_at}
use Rattle.ad_control.specs.Lines.{IsWayLine}
use Rattle.ad_control_lines.proofs.Putting.{SoFar}
use Rattle.ad_control_lines.proofs.steps.put_steps.Given as goal

-- those so far
abbrev pub invariant-loop-x : goal.invariant-loop-x
invariant-loop-x l = SoFar (λ x line. IsWayLine l.back l.dir l.graph.nodes.items l.graph.kinds.items l.ways x
    (way_at l.ways x) line) l.x l.fn.into.items l.into.items
