use Rattle.std.proofs.Common.{◌+◌, take}
use Rattle.ad_rows_write.specs.Body.{SpellsRecord}
use Rattle.ad_rows_write.specs.Listing.{counted}
use Rattle.ad_rows_write.proofs.InOrder.{adds_push}
use Rattle.ad_rows_write.proofs.InOrderWhole.{counted_longer}
use Rattle.ad_rows_write.proofs.listing.put_records.Goals as goal

pub loop-i-preserved : goal.loop-i-preserved
loop-i-preserved g c =
    let rs = c.args.records.now in
    let rows = g.R.RowList.rows in
    let i = c.loop-i.i in
    let x = c.index-records-i.result in
    let row = c.row.ensures in
    adds_push 4 SpellsRecord (counted 0 (take i rs)) (counted 0 (take (i + 1) rs)) (i, x) (rows c.args.into)
    (rows c.loop-i.rows) (rows c.in_ok-rows.rows) c.row.result
    (counted_longer rs i x c.loop-i-test.true c.index-records-i.is) c.loop-i.invariant
    (row.0, row.1, (c.in_ok-body.body.items, row.2, c.in_ok-body.ensures)) c.in_ok-rows.ensures
