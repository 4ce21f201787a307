use Rattle.std.proofs.Common.{length}
use Rattle.ad_diff.proofs.Groups.{placed_more}
use Rattle.ad_diff.proofs.Used.{numbered_more}
use Rattle.ad_diff.proofs.grouping.place.Goals as goal

pub returns-clause-placed : goal.returns-clause-placed
returns-clause-placed c = placed_more c.args.sides.now c.args.context.now.frame c.args.placing.now.columns.items
    c.group_of.new.columns.items c.in_ok-column.column c.args.placing.now.objects.items c.push.new.self.items
    c.args.g.both c.in_ok-group.group c.in_ok-group.ensures c.in_ok-column.ensures c.requires.placed
    c.in_ok-push.ensures.items

pub returns-clause-numbered : goal.returns-clause-numbered
returns-clause-numbered c = numbered_more (length c.args.placing.now.columns.items) (length c.group_of.new.columns.items)
    c.args.placing.now.objects.items c.push.new.self.items c.args.g.both c.in_ok-group.group
    c.in_ok-group.ensures.count c.group_fits.ensures c.requires.numbered c.in_ok-push.ensures.items
