use Rattle.std.proofs.Common.{◌≡◌, map, take}
use Rattle.ad_chains.specs.Chain.{turned}
use Rattle.ad_chains.proofs.edge.all_turned.Given as goal

-- those so far
abbrev pub invariant-loop-edge : goal.invariant-loop-edge
invariant-loop-edge l = l.found.items ≡ map turned (take l.edge-index l.edges)
