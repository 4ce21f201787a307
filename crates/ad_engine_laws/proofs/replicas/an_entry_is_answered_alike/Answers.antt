use Rattle.ad_engine_laws.proofs.Taking.{answered_at, message_answered_at}
use Rattle.ad_engine_laws.proofs.replicas.an_entry_is_answered_alike.Goals as goal

pub returns-clause-entry : goal.returns-clause-entry
returns-clause-entry c = answered_at

pub returns-clause-message : goal.returns-clause-message
returns-clause-message c = message_answered_at
