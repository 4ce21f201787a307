use Rattle.std.proofs.Common.{sym, ◌∙◌}
use Rattle.std.proofs.lemmas.Bool.{eq-eqb, ne_eqb}
use Rattle.ad_load_objects.proofs.Names.{given_here, given_later, given_none}
use Rattle.ad_load_objects.proofs.drafts.first_given.Goals as goal

pub returns-then-one-attr : goal.returns-then-one-attr
returns-then-one-attr c =
    sym (given_here c.args.given.now c.loop-one.one-index c.args.attr.0 c.one-item.result c.loop-one-test.true
    (sym c.one-item.is) (eq-eqb c.one-item.result.attr.0 c.args.attr.0 c.if-one-attr.true))
    ∙ c.loop-one.invariant

pub loop-one-preserved : goal.loop-one-preserved
loop-one-preserved c =
    sym (given_later c.args.given.now c.loop-one.one-index c.args.attr.0 c.one-item.result c.loop-one-test.true
    (sym c.one-item.is) (ne_eqb c.one-item.result.attr.0 c.args.attr.0 c.if-one-attr.false))
    ∙ c.loop-one.invariant

pub returns : goal.returns
returns c = sym (given_none c.args.given.now c.loop-one.one-index c.args.attr.0 c.loop-one-test.false)
    ∙ c.loop-one.invariant
