use Rattle.std.proofs.Common.{◌≡◌, map, take}
use Rattle.ad_chains.specs.Joining.{arc_edge}
use Rattle.ad_chains.proofs.arc.arc_edges.Given as goal

-- those so far
abbrev pub invariant-loop-arc : goal.invariant-loop-arc
invariant-loop-arc l = l.edges.items ≡ map (arc_edge l.count) (take l.arc-index l.arcs)
