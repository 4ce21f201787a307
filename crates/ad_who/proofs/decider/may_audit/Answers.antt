use Rattle.ad_acl.proofs.MaskLaws.{masked}
use Rattle.ad_who.proofs.decider.may_audit.Goals as goal

pub returns : goal.returns
returns c = masked c.args.token.now.privileges 0
