use Rattle.ad_acl.proofs.MaskLaws.{masked}
use Rattle.ad_rights.proofs.holding.may_audit.Goals as goal

pub returns : goal.returns
returns c = masked c.args.token.now.privileges 0
