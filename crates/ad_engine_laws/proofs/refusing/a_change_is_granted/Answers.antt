use Rattle.ad_engine_laws.proofs.Granting.{change_granted}
use Rattle.ad_engine_laws.proofs.refusing.a_change_is_granted.Goals as goal

pub returns : goal.returns
returns c = change_granted
