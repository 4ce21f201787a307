use Rattle.std.proofs.Common.{ℕ, List, length, sym, subst}
use Rattle.ad_chains.specs.Work.{AreWithin}
use Rattle.ad_chains.proofs.Asking.{marked_into}
use Rattle.ad_chains.proofs.Indexing.{places_within}
use Rattle.ad_chains.proofs.marking.mark_into.Goals as goal

pub mark_edges-requires-clause-places : goal.mark_edges-requires-clause-places
mark_edges-requires-clause-places c =
    subst (λ (l : List ℕ). AreWithin (length c.args.edges.now) l) (sym c.listed.ensures)
    (places_within c.args.edges.now (length c.args.edges.now) c.args.index.now c.args.node c.requires.index)

pub returns : goal.returns
returns c =
    marked_into c.args.edges.now c.args.index.now c.args.node c.args.counts c.args.level c.args.links.now
    c.mark_edges.new.links c.args.list.now.items c.mark_edges.new.list.items c.listed.result.now c.listed.ensures
    c.requires.index c.in_ok-mark_edges.ensures
