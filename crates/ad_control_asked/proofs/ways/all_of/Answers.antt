use Rattle.ad_control_asked.proofs.WayLaws.{ways_more}
use Rattle.ad_control_asked.proofs.ways.all_of.Goals as goal

pub loop-kind-preserved : goal.loop-kind-preserved
loop-kind-preserved c =
    let l = c.loop-kind in
    ways_more c.args.schema.now c.args.kinds.now l.kind-index _ l.all.items c.push.new.self.items
    c.in_ok-ways_of.field-0 c.loop-kind-test.true c.in_ok-push.ensures.items l.invariant c.in_ok-ways_of.ensures
