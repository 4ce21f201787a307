use Rattle.std.proofs.Common.{ℕ, List, subst, arith, ◌≡◌, length}
use Rattle.ad_chains.specs.Ways.{way_at}
use Rattle.ad_control.specs.Lines.{IsWayLine, AreTexts}
use Rattle.ad_control_lines.proofs.Putting.{SoFar, one_more}
use Rattle.ad_control_lines.proofs.steps.put_steps.Goals as goal

pub loop-x-preserved : goal.loop-x-preserved
loop-x-preserved c =
    let g = c.args.graph.now in
    let Is : ℕ → List ℕ → Type 0 = λ x line. IsWayLine c.args.back c.args.dir.now g.nodes.items g.kinds.items
    c.args.ways.now x (way_at c.args.ways.now x) line in
    one_more Is c.loop-x.x c.args.into.now.items c.loop-x.into.items c.put_way_if.new.into.items
    c.in_ok-put_way_if.ensures c.loop-x.invariant

pub returns : goal.returns
returns c =
    let g = c.args.graph.now in
    let Is : ℕ → List ℕ → Type 0 = λ x line. IsWayLine c.args.back c.args.dir.now g.nodes.items g.kinds.items
    c.args.ways.now x (way_at c.args.ways.now x) line in
    let so : SoFar Is c.loop-x.x c.args.into.now.items c.loop-x.into.items = c.loop-x.invariant in
    let all : c.loop-x.x ≡ length g.nodes.items
    = omega (arith, c.loop-x-test.false, c.loop-x.auto.x-end, c.len-x-end.ensures) in (
      so.text,
      so.put,
      subst (λ (n : ℕ). AreTexts Is 0 n so.text) all so.are,
    )
