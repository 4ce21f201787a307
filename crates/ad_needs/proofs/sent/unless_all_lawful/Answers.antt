use Rattle.std.proofs.Common.{◌∙◌, sym}
use Rattle.ad_needs.proofs.SentLaws.{checks_stop, checks_more, checks_end}
use Rattle.ad_needs.proofs.sent.unless_all_lawful.Goals as goal

pub returns-then-is_some : goal.returns-then-is_some
returns-then-is_some c =
    checks_stop c.args.schema.now c.args.class.0 c.args.value.now c.args.attrs.now c.loop-attr.attr-index
    c.attr-item.result c.unless_lawful-refusal.result c.loop-attr-test.true c.attr-item.is
    (sym c.if-is_some.ensures) c.unless_lawful-refusal.ensures
    ∙ c.loop-attr.invariant

pub loop-attr-preserved : goal.loop-attr-preserved
loop-attr-preserved c =
    sym (checks_more c.args.schema.now c.args.class.0 c.args.value.now c.args.attrs.now c.loop-attr.attr-index
    c.attr-item.result c.unless_lawful-refusal.result c.loop-attr-test.true c.attr-item.is
    (sym c.if-is_some.ensures) c.unless_lawful-refusal.ensures)
    ∙ c.loop-attr.invariant

pub returns : goal.returns
returns c = checks_end c.args.schema.now c.args.class.0 c.args.value.now c.args.attrs.now c.loop-attr.attr-index
    c.loop-attr-test.false ∙ c.loop-attr.invariant
