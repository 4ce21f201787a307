use Rattle.ad_ldap.proofs.RangesLaws.{message_in}
use Rattle.ad_ldap.proofs.laws.what_a_message_has.Goals as goal

pub returns : goal.returns
returns c = message_in
