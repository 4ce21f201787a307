use Rattle.std.proofs.Common.{◌∙◌, length, ap}
use Rattle.ad_dir.proofs.NameLaws.{if_ok}
use Rattle.ad_diff.proofs.Groups.{added_new}
use Rattle.ad_diff.proofs.grouping.add.Goals as goal

pub returns : goal.returns
returns c = if_ok c.number_of.result
    (λ group is. λ frame. added_new frame c.args.columns.now.items c.push.new.self.items c.args.column group
    c.in_ok-push.ensures.items (is ∙ ap length c.as_slice.ensures.value))
    c.number_of.ensures
