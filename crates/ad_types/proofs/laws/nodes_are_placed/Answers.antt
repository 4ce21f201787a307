use Rattle.ad_types.proofs.TreeLaws.{placed}
use Rattle.ad_types.proofs.laws.nodes_are_placed.Goals as goal

pub returns : goal.returns
returns c = placed
