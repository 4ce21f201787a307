use Rattle.std.proofs.Common.{◌∙◌, ◌+◌, false, Option, List, length, sym, subst}
use Rattle.ad_chains.specs.declared.edge.Edge.{Edge}
use Rattle.ad_chains.specs.declared.link.Link.{Link}
use Rattle.ad_chains.specs.Chain.{AreChainsTo}
use Rattle.ad_chains.specs.Work.{IsWithin}
use Rattle.ad_chains.specs.Ways.{IsPass}
use Rattle.ad_chains.specs.Joining.{edges_for, AreReadable}
use Rattle.ad_chains.proofs.Joined.{edges_within}
use Rattle.ad_chains.proofs.WayLaws.{Says, are_readable}
use Rattle.ad_chains.proofs.Directions.{pairs_to, ways_are}
use Rattle.ad_chains.proofs.ways.ways_to.Goals as goal
use Rattle.ad_chains.proofs.ways.ways_to.Goals.{In_ok-links}

pub chains_to-requires-clause-within : goal.chains_to-requires-clause-within
chains_to-requires-clause-within c =
    subst (λ (l : List Edge). IsWithin (c.args.count + length c.args.sets.now) l)
    (sym (c.as_slice.ensures.value ∙ c.in_ok-edges.ensures))
    (edges_within c.args.count c.args.sets.now c.args.arcs.now c.requires.members c.requires.arcs)

chains : (c : In_ok-links) → AreChainsTo (edges_for c.args.count c.args.sets.now c.args.arcs.now) c.args.end
    c.in_ok-links.links.items
chains c =
    subst (λ (l : List Edge). AreChainsTo l c.args.end c.in_ok-links.links.items)
    (c.as_slice.ensures.value ∙ c.in_ok-edges.ensures) c.in_ok-links.ensures.chains

pub ways_of-requires-clause-readable : goal.ways_of-requires-clause-readable
ways_of-requires-clause-readable c =
    let edges = c.as_slice-3.ensures.value ∙ c.in_ok-edges.ensures in
    subst (λ (l : List Edge). AreReadable false c.as_slice-2.result.now l c.args.count) (sym edges)
    (subst (λ (l : List (Option Link)). AreReadable false l (edges_for c.args.count c.args.sets.now c.args.arcs.now)
    c.args.count) (sym c.as_slice-2.ensures.value)
    (are_readable false (edges_for c.args.count c.args.sets.now c.args.arcs.now)
    (edges_for c.args.count c.args.sets.now c.args.arcs.now) c.args.arcs.now (IsPass c.args.sets.now c.args.arcs.now)
    c.args.count c.args.end c.in_ok-links.links.items
    (pairs_to c.args.count c.args.sets.now c.args.arcs.now c.args.end c.in_ok-links.links.items c.requires.members
    c.requires.arcs c.requires.end)
    (chains (goal.at.ways_of-requires-clause-readable c).In_ok-links)))

pub returns-clause-ways : goal.returns-clause-ways
returns-clause-ways c =
    let edges = c.as_slice-3.ensures.value ∙ c.in_ok-edges.ensures in
    ways_are c.args.count c.args.sets.now c.args.arcs.now c.args.end c.in_ok-links.links.items c.in_ok-ways.ways.items
    c.requires.members c.requires.arcs c.requires.end c.in_ok-ways.ensures.long
    (subst (λ (l : List Edge). Says false c.args.count c.in_ok-links.links.items l c.in_ok-ways.ways.items) edges
    (subst (λ (l : List (Option Link)). Says false c.args.count l c.as_slice-3.result.now c.in_ok-ways.ways.items)
    c.as_slice-2.ensures.value c.in_ok-ways.ensures.each))
    (chains (goal.at.returns-clause-ways c).In_ok-links)
