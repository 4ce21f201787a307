use Rattle.std.proofs.Common.{ℕ, List, subst, arith, ◌≡◌, length}
use Rattle.ad_chains.specs.Ways.{way_at}
use Rattle.ad_control.specs.Lines.{IsObjectLine, AreTexts}
use Rattle.ad_control_lines.proofs.Putting.{SoFar, one_more}
use Rattle.ad_control_lines.proofs.nodes.put_objects.Goals as goal

pub loop-x-preserved : goal.loop-x-preserved
loop-x-preserved c =
    let Is : ℕ → List ℕ → Type 0 = λ x line. IsObjectLine c.args.dir.now c.args.nodes.now c.args.ways.now x
    (way_at c.args.ways.now x) line in
    one_more Is c.loop-x.x c.args.into.now.items c.loop-x.into.items c.put_object_if.new.into.items
    c.in_ok-put_object_if.ensures c.loop-x.invariant

pub returns : goal.returns
returns c =
    let Is : ℕ → List ℕ → Type 0 = λ x line. IsObjectLine c.args.dir.now c.args.nodes.now c.args.ways.now x
    (way_at c.args.ways.now x) line in
    let so : SoFar Is c.loop-x.x c.args.into.now.items c.loop-x.into.items = c.loop-x.invariant in
    let all : c.loop-x.x ≡ length c.args.nodes.now = omega (arith, c.loop-x-test.false, c.loop-x.auto.x-end) in (
      so.text,
      so.put,
      subst (λ (n : ℕ). AreTexts Is 0 n so.text) all so.are,
    )
