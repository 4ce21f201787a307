use Rattle.std.proofs.Common.{arith}
use Rattle.ad_filter.specs.Comparing.{passes}
use Rattle.ad_filter.proofs.Compared.{this_passes, others_pass, none_passes}
use Rattle.ad_filter.proofs.comparison.any_passes.Goals as goal

pub returns-then-branch : goal.returns-then-branch
returns-then-branch c =
    this_passes c.args.syntax (passes c.args.comparison c.args.sent.now.key) c.args.values.now
    c.loop-value.value-index c.value-item.result c.loop-value-test.true c.value-item.is
    (rw c.if-branch.true at c.in_ok-is_one.ensures) c.loop-value.invariant

pub loop-value-preserved : goal.loop-value-preserved
loop-value-preserved c =
    others_pass c.args.syntax (passes c.args.comparison c.args.sent.now.key) c.args.values.now
    c.loop-value.value-index c.value-item.result c.loop-value-test.true c.value-item.is
    (rw c.if-branch.false at c.in_ok-is_one.ensures) c.loop-value.invariant

pub returns : goal.returns
returns c = none_passes c.args.syntax (passes c.args.comparison c.args.sent.now.key) c.args.values.now
    c.loop-value.value-index (omega (arith, c.loop-value-test.false)) c.loop-value.invariant
