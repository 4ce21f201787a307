use Rattle.ad_dir_model.specs.Objects.{sd_at}
use Rattle.ad_dir_objects.specs.Seen.{object_seen}
use Rattle.ad_dir.proofs.NameLaws.{object_is}
use Rattle.ad_dir.proofs.live.live_object.Goals as goal

pub returns : goal.returns
returns c = object_is c.args.dir.now.objects c.args.number
    (object_seen c.in-Some.object.now (sd_at c.args.dir.now.objects c.args.number)) c.in-Some.ensures
