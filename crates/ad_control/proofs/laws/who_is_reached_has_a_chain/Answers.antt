use Rattle.ad_control.proofs.ChainLaws.{reaches}
use Rattle.ad_control.proofs.laws.who_is_reached_has_a_chain.Goals as goal

pub returns : goal.returns
returns c = reaches
