use Rattle.std.proofs.Common.{◌≡◌, ◌+◌, ◌++◌, drop}
use Rattle.ad_chains.specs.Joining.{member_edges, edges_for}
use Rattle.ad_chains.proofs.arc.edges_for.Given as goal

-- what was put, before what the other sets give, is what all give
abbrev pub invariant-loop-set : goal.invariant-loop-set
invariant-loop-set l =
    l.edges.items ++ member_edges (l.count + l.set) (drop l.set l.sets) ≡ edges_for l.count l.sets l.arcs
