use Rattle.ad_chains.proofs.Turned.{turned_chain, chain_turned, turned_length}
use Rattle.ad_chains.proofs.laws.a_chain_of_edges_turned_round_leads_back.Goals as goal

pub returns : goal.returns
returns c = record { back = turned_chain; forth = chain_turned; as_long = turned_length }
