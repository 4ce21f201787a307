use Rattle.std.proofs.Common.{Result, subst, arith}
use Rattle.ad_bytes.specs.Reading.{GivesUnless}
use Rattle.ad_ldap.specs.declared.fault.LdapFault.{LdapFault}
use Rattle.ad_ldap.specs.MessageValue.{MessageValue, message_seen}
use Rattle.ad_ldap.specs.Reading.{is_memory}
use Rattle.ad_ldap.proofs.MessageCodec.{is_found, message_again}
use Rattle.ad_ldap.proofs.message_reading.read_message.Goals as goal

pub returns-clause-found : goal.returns-clause-found
returns-clause-found c = is_found c.args.bytes.now c.whole.result (λ i. omega (arith, c.type_inv.bytes i))
    c.whole.ensures

pub returns-clause-only : goal.returns-clause-only
returns-clause-only c = λ m s. subst (λ (r : Result MessageValue LdapFault). GivesUnless is_memory message_seen
    c.whole.result r) (message_again c.args.bytes.now m s) c.whole.ensures
