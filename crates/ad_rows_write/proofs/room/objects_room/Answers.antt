use Rattle.ad_rows_write.proofs.InOrderWhole.{live_at_place}
use Rattle.ad_rows_write.proofs.room.objects_room.Goals as goal

pub object_room-requires : goal.object_room-requires
object_room-requires c = live_at_place c.args.dir.now.objects c.args.live.now c.loop-number.number-index c.requires
    c.loop-number-test.true
