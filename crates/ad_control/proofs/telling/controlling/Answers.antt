use Rattle.std.proofs.Common.{ℕ, ◌<◌, List, length, subst, arith}
use Rattle.std.specs.Global.{Vec}
use Rattle.ad_chains.specs.declared.arc.Arc.{Arc}
use Rattle.ad_chains.specs.Ways.{IsMember, AreWaysTo}
use Rattle.ad_control.proofs.Ways.{controlling}
use Rattle.ad_control.proofs.telling.controlling.Goals as goal

pub ways_to-requires-clause-members : goal.ways_to-requires-clause-members
ways_to-requires-clause-members c = λ set x is.
    let low : x < length c.args.graph.now.nodes.items
    = c.requires.whole.members set x (subst (λ (l : List (Vec ℕ)). IsMember l set x) c.as_slice.ensures.value is) in
    omega (arith, low, c.len.ensures, c.args.graph.now.nodes.ok.0)

pub returns : goal.returns
returns c = λ dir graph.
    let g = c.args.graph.now in
    controlling dir g.nodes.items g.kinds.items g.sets.items g.arcs.items c.args.end c.in_ok-ways.ways.items
    graph
    (subst (λ (l : List Arc). AreWaysTo g.sets.items l c.args.end c.in_ok-ways.ways.items) c.as_slice-2.ensures.value
    (subst (λ (l : List (Vec ℕ)). AreWaysTo l c.as_slice-2.result.now c.args.end c.in_ok-ways.ways.items)
    c.as_slice.ensures.value c.in_ok-ways.ensures.ways))
