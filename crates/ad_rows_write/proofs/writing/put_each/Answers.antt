use Rattle.ad_rows_write.proofs.Putting.{each_at}
use Rattle.ad_rows_write.proofs.writing.put_each.Goals as goal

pub loop-item-preserved : goal.loop-item-preserved
loop-item-preserved g c =
    each_at g.T.Part.Spells c.args.items.now c.loop-item.item-index c.item-item.result c.args.into.now.items
    c.loop-item.into.items c.put.new.into.items c.loop-item-test.true c.item-item.is c.loop-item.invariant
    c.in_ok-put.ensures
