use Rattle.ad_control_graph.proofs.Choosing.{IsFound}
use Rattle.ad_control_graph.proofs.drawing.chosen.Given as goal

-- those of the first places
abbrev pub invariant-loop-place : goal.invariant-loop-place
invariant-loop-place l = IsFound l.set l.at l.place l.found.items
