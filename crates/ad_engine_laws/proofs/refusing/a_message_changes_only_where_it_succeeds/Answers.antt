use Rattle.ad_engine_laws.proofs.Leaving.{changes_or_succeeds}
use Rattle.ad_engine_laws.proofs.refusing.a_message_changes_only_where_it_succeeds.Goals as goal

pub returns : goal.returns
returns c = changes_or_succeeds
