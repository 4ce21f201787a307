use Rattle.std.proofs.Common.{rules}
use Rattle.ad_ldap.specs.Again.{digest}
use Rattle.ad_ldap.proofs.again.digest.Goals as goal

pub returns : goal.returns
unfolding digest
returns c = search rules
