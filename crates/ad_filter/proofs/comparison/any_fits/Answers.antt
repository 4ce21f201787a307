use Rattle.std.proofs.Common.{arith}
use Rattle.ad_value.specs.Pieces.{fits_key}
use Rattle.ad_filter.proofs.Compared.{this_passes, others_pass, none_passes}
use Rattle.ad_filter.proofs.comparison.any_fits.Goals as goal

pub returns-then-branch : goal.returns-then-branch
returns-then-branch c =
    this_passes c.args.syntax (fits_key c.args.pattern.now) c.args.values.now c.loop-value.value-index
    c.value-item.result c.loop-value-test.true c.value-item.is (rw c.if-branch.true at c.in_ok-is_fitting.ensures)
    c.loop-value.invariant

pub loop-value-preserved : goal.loop-value-preserved
loop-value-preserved c =
    others_pass c.args.syntax (fits_key c.args.pattern.now) c.args.values.now c.loop-value.value-index
    c.value-item.result c.loop-value-test.true c.value-item.is
    (rw c.if-branch.false at c.in_ok-is_fitting.ensures) c.loop-value.invariant

pub returns : goal.returns
returns c = none_passes c.args.syntax (fits_key c.args.pattern.now) c.args.values.now c.loop-value.value-index
    (omega (arith, c.loop-value-test.false)) c.loop-value.invariant
