use Rattle.std.proofs.Common.{◌≡◌, ◌∙◌, ℕ, ◌+◌, false, Some, List, length, sym, ap, subst}
use Rattle.std.specs.Prelude.{slice_get, slice_index_or}
use Rattle.std.specs.Global.{Vec}
use Rattle.std.proofs.lemmas.Option.{slice_get-get_or}
use Rattle.ad_chains.specs.declared.edge.Edge.{Edge}
use Rattle.ad_chains.specs.Work.{Puts, IsIndexSoFar}
use Rattle.ad_chains.proofs.Marked.{written_back}
use Rattle.ad_chains.proofs.Indexing.{index_more}
use Rattle.ad_chains.proofs.index.index_of.Goals as goal

pub loop-place-preserved : goal.loop-place-preserved
loop-place-preserved c =
    let l = c.loop-place in
    let edges : List Edge = c.args.edges.now in
    let edge : Edge = slice_index_or edges l.place (record { from = 0; to = 0; counts = false }) in
    let at : slice_get edges l.place ≡ Some edge
    = slice_get-get_or edges l.place (record { from = 0; to = 0; counts = false }) c.loop-place-test.true in
    let puts : Puts l.index.items edge.to l.place c.put.new.rows
    = subst (λ (rows : List (Vec ℕ)). Puts rows edge.to l.place c.put.new.rows) c.deref_mut.ensures.value
    c.in_ok-put.ensures in
    let back = written_back l.index.len c.put.new.rows l.index.items
    (c.in_ok-put.ensures.long ∙ c.deref_mut.ensures.len) in
    record {
      long = ap (λ (rows : List (Vec ℕ)). length rows) back ∙ puts.long ∙ l.invariant.long;
      index = subst (λ (rows : List (Vec ℕ)). IsIndexSoFar edges (l.place + 1) rows) (sym back)
          (index_more edges l.place edge l.index.items c.put.new.rows at l.invariant.index puts);
    }
