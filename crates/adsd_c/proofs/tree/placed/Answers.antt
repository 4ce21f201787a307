use Rattle.std.proofs.Common.{sym, ◌∙◌, ap, List, ℕ, get_or}
use Rattle.std.proofs.lemmas.Result.{err_from_is_err_and}
use Rattle.adsd_c.specs.Tree.{above_at}
use Rattle.adsd_c.proofs.Levels.{blank, placed_more, placed_stop, placed_end}
use Rattle.adsd_c.proofs.tree.placed.Goals as goal

pub loop-next-preserved : goal.loop-next-preserved
loop-next-preserved c =
    let given = c.args.given.now in
    let i = c.loop-next.next-index in
    rw (c.in_ok-put_place.ensures, c.in_ok-put_node.ensures, c.len.ensures, c.loop-next.nodes.ok.0)
    (sym (placed_more c.loop-next.chain.items c.loop-next.nodes.items given i c.in_ok-above.above c.loop-next-test.true
    (sym (c.in_ok-above.ensures ∙ ap (λ (chain : List ℕ). above_at chain (get_or given i blank).level)
    c.deref.ensures.value)))
    ∙ c.loop-next.invariant)

pub returns : goal.returns
returns c = sym c.loop-next.invariant ∙ placed_end c.loop-next.chain.items c.loop-next.nodes.items c.args.given.now
    c.loop-next.next-index c.loop-next-test.false

pub returns-in_err-above : goal.returns-in_err-above
returns-in_err-above c =
    let p = err_from_is_err_and c.from_residual.result c.from_residual.ensures.1 in
    let given = c.args.given.now in
    let i = c.loop-next.next-index in
    rw (p.1, p.2) (λ _. sym c.loop-next.invariant ∙ placed_stop c.loop-next.chain.items c.loop-next.nodes.items given
    i c.in_err-above.field-0.0 c.loop-next-test.true
    (sym (c.in_err-above.ensures ∙ ap (λ (chain : List ℕ). above_at chain (get_or given i blank).level)
    c.deref.ensures.value)))
