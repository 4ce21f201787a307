use Rattle.ad_sets.proofs.Changing.{put_next, put_end}
use Rattle.ad_sets.proofs.row.put_all.Goals as goal

pub loop-change-preserved : goal.loop-change-preserved
loop-change-preserved c =
    let l = c.loop-change in
    put_next c.args.changes.now l.change-index _ l.whole.items c.put_one.new.whole.items _ c.loop-change-test.true
    c.put_one.ensures l.invariant

pub returns : goal.returns
returns c =
    let l = c.loop-change in
    put_end c.args.changes.now l.change-index l.whole.items _ c.loop-change-test.false l.invariant
