use Rattle.std.proofs.Common.{◌≡◌, ℕ, ◌+◌, false, Option, Some, List, sym, subst}
use Rattle.std.specs.Prelude.{slice_get, slice_index, slice_index_or}
use Rattle.std.specs.Global.{Vec}
use Rattle.std.proofs.lemmas.Option.{slice_get-get_or}
use Rattle.ad_chains.specs.declared.edge.Edge.{Edge}
use Rattle.ad_chains.specs.declared.link.Link.{Link}
use Rattle.ad_chains.specs.Work.{IsListed, Marks}
use Rattle.ad_chains.proofs.Marked.{same_test, other_test}
use Rattle.ad_chains.proofs.Asking.{passed_listed, marked_listed}
use Rattle.ad_chains.proofs.marking.mark_edges.Goals as goal
use Rattle.ad_chains.proofs.marking.mark_edges.Goals.{then-edge-counts+in_ok-mark, else-edge-counts}

pub loop-place-preserved : goal.loop-place-preserved
loop-place-preserved c =
    let a = c.args in
    let l = c.loop-place in
    let place : ℕ = slice_index a.places.now l.place-index in
    let edge : Edge = slice_index_or a.edges.now place (record { from = 0; to = 0; counts = false }) in
    let at : slice_get a.edges.now place ≡ Some edge = slice_get-get_or a.edges.now place
    (record { from = 0; to = 0; counts = false }) (c.requires.places l.place-index c.loop-place-test.true) in
    elim c.if-edge-counts.branch [
      | then-edge-counts+in_ok-mark w ↦
          let marks = marked_listed a.edges.now a.places.now l.place-index a.counts a.level edge a.links.now l.links
          w.mark.new.links a.list.now.items l.list.items w.mark.new.list.items at
          (same_test edge.counts a.counts w.if-edge-counts.true) l.invariant w.in_ok-mark.ensures in
          subst (λ (links : List (Option Link)).
          Marks (IsListed a.edges.now a.places.now (l.place-index + 1) a.counts a.level) a.links.now a.list.now.items
          links c.if-edge-counts.list.items) (sym w.links-is)
          (subst (λ (v : Vec ℕ).
          Marks (IsListed a.edges.now a.places.now (l.place-index + 1) a.counts a.level) a.links.now a.list.now.items
          w.mark.new.links v.items) (sym w.list-is) marks)
      | else-edge-counts w ↦
          let marks = passed_listed a.edges.now a.places.now l.place-index a.counts a.level edge a.links.now l.links
          a.list.now.items l.list.items at (other_test edge.counts a.counts w.if-edge-counts.false) l.invariant in
          subst (λ (links : List (Option Link)).
          Marks (IsListed a.edges.now a.places.now (l.place-index + 1) a.counts a.level) a.links.now a.list.now.items
          links c.if-edge-counts.list.items) (sym w.links-is)
          (subst (λ (v : Vec ℕ).
          Marks (IsListed a.edges.now a.places.now (l.place-index + 1) a.counts a.level) a.links.now a.list.now.items
          l.links v.items) (sym w.list-is) marks)
    ]
