use Rattle.ad_control.proofs.ChainLaws.{controls}
use Rattle.ad_control.proofs.laws.who_comes_to_control_has_a_chain.Goals as goal

pub returns : goal.returns
returns c = controls
