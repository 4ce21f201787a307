use Rattle.std.proofs.Common.{ℕ, ◌+◌, ◌-◌, ap, ◌∙◌, arith}
use Rattle.ad_change.specs.Depths.{parent_then}
use Rattle.ad_change.specs.Tree.{depth_within, depth_of}
use Rattle.ad_change.proofs.DepthLaws.{begins_up, goes_up, ends_up, ends_at_root}
use Rattle.ad_change.proofs.depth.depth_then.Goals as goal

pub up-init : goal.up-init
up-init c = (omega arith, begins_up (parent_then c.args.dir.now c.args.moved c.args.parent) c.args.number)

pub returns-then-at-eq-ROOT : goal.returns-then-at-eq-ROOT
returns-then-at-eq-ROOT c =
    let parent = parent_then c.args.dir.now c.args.moved c.args.parent in
    ends_at_root parent c.up.depth c.up.at (depth_of parent c.args.number) c.if-at-eq-ROOT.true c.up.invariant.1

pub up-preserved : goal.up-preserved
up-preserved c =
    let parent = parent_then c.args.dir.now c.args.moved c.args.parent in (
      omega (arith, c.up-test.true),
      ap (λ (n : ℕ). c.up.depth + 1 + depth_within parent (65 - (c.up.depth + 1)) n) c.parent_then-at.ensures
          ∙ goes_up parent c.up.depth c.up.at (depth_of parent c.args.number) (omega (arith, c.up-test.true))
          c.if-at-eq-ROOT.false c.up.invariant.1,
    )

pub returns : goal.returns
returns c =
    let parent = parent_then c.args.dir.now c.args.moved c.args.parent in
    ends_up parent c.up.depth c.up.at (depth_of parent c.args.number) (omega (arith, c.up-test.false)) c.up.invariant.1
