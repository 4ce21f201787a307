use Rattle.ad_dir.proofs.NameLaws.{if_ok}
use Rattle.ad_diff.proofs.rows.group_of.Goals as goal

pub returns : goal.returns
returns c = if_ok c.lead.result (λ group led. led c.args.frame.now c.args.columns.now) c.lead.ensures
