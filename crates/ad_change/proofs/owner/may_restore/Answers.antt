use Rattle.ad_acl.proofs.MaskLaws.{masked}
use Rattle.ad_change.proofs.owner.may_restore.Goals as goal

pub returns : goal.returns
returns c = masked c.args.privileges 2
