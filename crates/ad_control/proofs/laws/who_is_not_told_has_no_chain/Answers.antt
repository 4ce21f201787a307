use Rattle.ad_control.proofs.ChainLaws.{not_controls, not_reaches}
use Rattle.ad_control.proofs.laws.who_is_not_told_has_no_chain.Goals as goal

pub returns : goal.returns
returns c = record { to = not_controls; from = not_reaches }
