use Rattle.std.proofs.Common.{length, sym, ◌∙◌}
use Rattle.std.proofs.lemmas.Bool.{eqb-true, eqb-false}
use Rattle.ad_change_values.proofs.HeldLaws.{taken_some, taken_all}
use Rattle.ad_change_values.proofs.items.taken_from.Goals as goal

pub returns-then-is_none : goal.returns-then-is_none
returns-then-is_none c =
    taken_all c.args.gone.now c.args.stored c.of.result
    (eqb-true (length c.args.gone.now) 0 (sym c.is_none.ensures ∙ c.if-is_none.true))
    (c.of.ensures ∙ c.new.ensures)

pub returns : goal.returns
returns c =
    taken_some c.args.gone.now c.args.stored c.in_ok-left.left
    (eqb-false (length c.args.gone.now) 0 (sym c.is_none.ensures ∙ c.if-is_none.false))
    c.in_ok-left.ensures
