use Rattle.std.proofs.Common.{◌+◌, take, get_or}
use Rattle.ad_dir_model.specs.Objects.{object_at}
use Rattle.ad_rows_write.specs.Body.{SpellsObject}
use Rattle.ad_rows_write.specs.Listing.{objects_at}
use Rattle.ad_rows_write.proofs.InOrder.{adds_push}
use Rattle.ad_rows_write.proofs.InOrderWhole.{objects_longer, live_at_place, itself}
use Rattle.ad_rows_write.proofs.listing.put_each.Goals as goal

pub object_row-requires : goal.object_row-requires
object_row-requires g c = live_at_place c.args.dir.now.objects c.args.live.now c.loop-number.number-index c.requires
    c.loop-number-test.true

pub loop-number-preserved : goal.loop-number-preserved
loop-number-preserved g c =
    let objects = c.args.dir.now.objects in
    let ns = c.args.live.now in
    let rows = g.R.RowList.rows in
    let i = c.loop-number.number-index in
    let x = get_or ns i 0 in
    adds_push 1 SpellsObject (objects_at objects (take i ns)) (objects_at objects (take (i + 1) ns))
    (x, object_at objects x) (rows c.args.into) (rows c.loop-number.rows) (rows c.in_ok-rows.rows) c.in_ok-row.row
    (objects_longer objects ns i x c.loop-number-test.true (itself ns i c.loop-number-test.true))
    c.loop-number.invariant c.in_ok-row.ensures c.in_ok-rows.ensures
