use Rattle.ad_chains.specs.Work.{IsListed, Marks}
use Rattle.ad_chains.proofs.marking.mark_edges.Given as goal

-- those that the edges so far ask for
abbrev pub invariant-loop-place : goal.invariant-loop-place
invariant-loop-place l =
    Marks (IsListed l.edges l.places l.place-index l.counts l.level) l.initial.links l.initial.list.items l.links
    l.list.items
