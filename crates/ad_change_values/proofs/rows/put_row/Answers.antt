use Rattle.std.proofs.Common.{ap, ◌∙◌}
use Rattle.ad_change_values.specs.ByAttr.{by_attr}
use Rattle.ad_change_values.proofs.RowLaws.{put_among}
use Rattle.ad_change_values.proofs.rows.put_row.Goals as goal

pub returns-in-Ok : goal.returns-in-Ok
returns-in-Ok c = ap by_attr c.in-Ok.ensures.entries ∙ put_among c.args.rows.now.entries c.args.attr.0 c.args.pile
