use Rattle.std.proofs.Common.{length, sym, ap, ◌∙◌}
use Rattle.std.proofs.lemmas.Bool.{eqb-true, eqb-false}
use Rattle.ad_change_values.specs.ByAttr.{by_attr}
use Rattle.ad_change_values.proofs.RowLaws.{put_these, put_nothing}
use Rattle.ad_change_values.proofs.rows.put_pile.Goals as goal

pub returns-then-is_empty : goal.returns-then-is_empty
returns-then-is_empty c =
    put_nothing (by_attr c.args.rows.now.entries) c.args.attr.0 c.args.stored c.requires
    (eqb-true (length c.args.stored) 0 (sym c.is_empty.ensures ∙ c.if-is_empty.true))

pub returns-in-Ok : goal.returns-in-Ok
returns-in-Ok c =
    ap by_attr c.in-Ok.ensures.entries
    ∙ put_these c.args.rows.now.entries c.args.attr.0 c.args.stored
    (eqb-false (length c.args.stored) 0 (sym c.is_empty.ensures ∙ c.if-is_empty.false))
