use Rattle.ad_types.proofs.LeafLaws.{has_leaves}
use Rattle.ad_types.proofs.laws.attributes_are_leaves.Goals as goal

pub returns : goal.returns
returns c = has_leaves
