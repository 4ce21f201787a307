use Rattle.std.proofs.Common.{true, false, sym, ◌∙◌}
use Rattle.ad_schema_defaults.proofs.OnePass.{judged}
use Rattle.ad_schema_defaults.proofs.class.lowest_from.Goals as goal

pub returns-then-is_below_all : goal.returns-then-is_below_all
returns-then-is_below_all c = sym (c.candidate-class.ensures
    ∙ judged c.args.schema.now c.args.classes.now c.candidate-class.result.0 true
    (sym c.is_below_all.ensures ∙ c.if-is_below_all.true))

pub returns : goal.returns
returns c = sym (c.candidate-class.ensures
    ∙ judged c.args.schema.now c.args.classes.now c.candidate-class.result.0 false
    (sym c.is_below_all.ensures ∙ c.if-is_below_all.false))
