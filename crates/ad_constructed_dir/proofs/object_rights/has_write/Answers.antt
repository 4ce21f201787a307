use Rattle.ad_acl.proofs.MaskLaws.{masked}
use Rattle.ad_constructed_dir.proofs.object_rights.has_write.Goals as goal

pub returns : goal.returns
returns c = masked c.args.mask 5
