use Rattle.ad_ldap.specs.MessageValue.{message_seen}
use Rattle.ad_ldifmod_message.proofs.Spelled.{text_spelled}
use Rattle.ad_ldifmod_message.proofs.writing.write_message.Goals as goal

pub returns-clause-spelled : goal.returns-clause-spelled
returns-clause-spelled c = λ low. text_spelled (message_seen c.args.message.now) c.in_ok-bytes.bytes.items c.requires
    c.in_ok-bytes.ensures low
