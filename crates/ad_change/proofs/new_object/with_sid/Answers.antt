use Rattle.std.proofs.Common.{map}
use Rattle.ad_dir_objects.specs.Seen.{held_seen}
use Rattle.ad_dir_model.specs.Attributes.{object_sid}
use Rattle.ad_change.proofs.AddLaws.{no_new_sid}
use Rattle.ad_change.proofs.new_object.with_sid.Goals as goal

pub returns-in-None : goal.returns-in-None
returns-in-None c = rw c.in-None.is (no_new_sid (object_sid c.args.dir.now.schema)
    (map held_seen c.args.held.now.items))
