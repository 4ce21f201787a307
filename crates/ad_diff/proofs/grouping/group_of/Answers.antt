use Rattle.ad_dir.proofs.NameLaws.{if_ok}
use Rattle.ad_diff.proofs.grouping.group_of.Goals as goal

pub returns : goal.returns
returns c = if_ok c.add.result (λ group added. added c.args.frame.now) c.add.ensures
