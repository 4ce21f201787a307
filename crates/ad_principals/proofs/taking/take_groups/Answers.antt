use Rattle.ad_principals.proofs.Steps.{take_group_at}
use Rattle.ad_principals.proofs.taking.take_groups.Goals as goal

pub loop-group-preserved : goal.loop-group-preserved
loop-group-preserved c =
    take_group_at c.args.dir.now c.args.groups.now c.loop-group.group-index c.args.taken.now.keys
    c.loop-group.taken.keys c.take_group.new.taken.keys
    c.loop-group-test.true c.loop-group.invariant c.in_ok-take_group.ensures
