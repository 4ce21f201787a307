use Rattle.ad_chains.proofs.PassageLaws.{chain_of}
use Rattle.ad_chains.proofs.laws.a_way_from_node_to_node_is_a_chain.Goals as goal

pub returns : goal.returns
returns c = chain_of
