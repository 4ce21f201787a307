use Rattle.ad_chains.proofs.ChainLaws.{told_in}
use Rattle.ad_chains.proofs.laws.who_is_told_is_in_each_closed_set.Goals as goal

pub returns : goal.returns
returns c = told_in
