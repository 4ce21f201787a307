use Rattle.std.proofs.Common.{ap, sym, ◌∙◌, length}
use Rattle.std.proofs.lemmas.Bool.{eqb-false}
use Rattle.ad_change_values.specs.ByAttr.{by_attr}
use Rattle.ad_change.proofs.ByAttr.{put_in}
use Rattle.ad_change.proofs.by_attr.put_with.Goals as goal

pub returns-in-Ok : goal.returns-in-Ok
returns-in-Ok c =
    ap by_attr c.in-Ok.ensures.entries
    ∙ put_in c.args.values.now.entries c.args.attr.0 c.args.stored
    (eqb-false (length c.args.stored) 0 (sym c.is_empty.ensures ∙ c.if-is_empty.false))
