use Rattle.ad_chains.proofs.ChainLaws.{nobody_left_out}
use Rattle.ad_chains.proofs.laws.who_is_not_told_has_no_chain.Goals as goal

pub returns : goal.returns
returns c = nobody_left_out
