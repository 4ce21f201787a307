use Rattle.ad_engine_laws.proofs.Leaving.{refused_leaves}
use Rattle.ad_engine_laws.proofs.refusing.a_refused_message_changes_nothing.Goals as goal

pub returns : goal.returns
returns c = refused_leaves
