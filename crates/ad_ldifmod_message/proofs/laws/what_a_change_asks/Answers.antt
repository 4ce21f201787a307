use Rattle.ad_ldifmod_message.proofs.Ranged.{asked_writable}
use Rattle.ad_ldifmod_message.proofs.Spelled.{message_spelled}
use Rattle.ad_ldifmod_message.proofs.laws.what_a_change_asks.Goals as goal

pub returns-clause-writable : goal.returns-clause-writable
returns-clause-writable c = asked_writable

pub returns-clause-spelled : goal.returns-clause-spelled
returns-clause-spelled c = message_spelled
