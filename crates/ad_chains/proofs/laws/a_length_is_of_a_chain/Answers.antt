use Rattle.ad_chains.proofs.ChainLaws.{chain_told}
use Rattle.ad_chains.proofs.laws.a_length_is_of_a_chain.Goals as goal

pub returns : goal.returns
returns c = chain_told
