use Rattle.std.proofs.Common.{sym}
use Rattle.ad_ldap.proofs.again.stands.Goals as goal

pub returns-then-is_new : goal.returns-then-is_new
returns-then-is_new c = λ new. sym (new c.if-is_new.true)

pub returns : goal.returns
returns c = λ new. c.has.ensures
