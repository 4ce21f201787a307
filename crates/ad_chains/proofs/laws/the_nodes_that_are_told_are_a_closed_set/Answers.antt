use Rattle.ad_chains.proofs.ChainLaws.{told_closed}
use Rattle.ad_chains.proofs.laws.the_nodes_that_are_told_are_a_closed_set.Goals as goal

pub returns : goal.returns
returns c = told_closed
