use Rattle.ad_chains.proofs.ChainLaws.{least_told}
use Rattle.ad_chains.proofs.laws.a_length_is_least.Goals as goal

pub returns : goal.returns
returns c = least_told
