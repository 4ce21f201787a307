use Rattle.std.proofs.Common.{Bool, ◌&&◌, ◌+◌, drop, sym, ap, ◌∙◌}
use Rattle.ad_types.specs.Tree.{are_below}
use Rattle.ad_types.proofs.TreeLaws.{below_more, below_all}
use Rattle.ad_types.proofs.type_tree.are_below.Goals as goal

pub returns-then-not-is_above : goal.returns-then-not-is_above
returns-then-not-is_above c =
    let rest : Bool = are_below (c.loop-i.i + 1) (drop (c.loop-i.i + 1) c.args.nodes.now) in
    ap (λ (b : Bool). b && rest) (sym c.if-not-is_above.true ∙ c.is_above.ensures)
    ∙ sym (below_more c.args.nodes.now c.loop-i.i _ c.loop-i-test.true)
    ∙ c.loop-i.invariant

pub loop-i-preserved : goal.loop-i-preserved
loop-i-preserved c =
    let rest : Bool = are_below (c.loop-i.i + 1) (drop (c.loop-i.i + 1) c.args.nodes.now) in
    ap (λ (b : Bool). b && rest) (sym c.if-not-is_above.false ∙ c.is_above.ensures)
    ∙ sym (below_more c.args.nodes.now c.loop-i.i _ c.loop-i-test.true)
    ∙ c.loop-i.invariant

pub returns : goal.returns
returns c = sym (below_all c.args.nodes.now c.loop-i.i c.loop-i-test.false) ∙ c.loop-i.invariant
