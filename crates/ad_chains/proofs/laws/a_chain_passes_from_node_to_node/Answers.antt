use Rattle.ad_chains.proofs.PassageLaws.{passages_of}
use Rattle.ad_chains.proofs.laws.a_chain_passes_from_node_to_node.Goals as goal

pub returns : goal.returns
returns c = passages_of
