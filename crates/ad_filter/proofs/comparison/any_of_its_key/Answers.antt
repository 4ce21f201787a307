use Rattle.ad_filter.specs.declared.comparison.Comparison.TheVariants.{Equal}
use Rattle.ad_filter.specs.Comparing.{passes}
use Rattle.ad_filter.proofs.InOrder.{none_compared, one_compared}
use Rattle.ad_filter.proofs.comparison.any_of_its_key.Goals as goal

pub returns-in_default : goal.returns-in_default
returns-in_default c = none_compared c.args.syntax (passes Equal c.args.sent.now.key) c.args.values.now
    c.in_default.ensures

pub returns-then-branch : goal.returns-then-branch
returns-then-branch c =
    one_compared c.args.syntax (passes Equal c.args.sent.now.key) c.args.values.now c.in-Some.own.now
    c.in-Some.ensures.0 (rw c.if-branch.true at c.in_ok-is_compared.ensures) c.in-Some.ensures.1
