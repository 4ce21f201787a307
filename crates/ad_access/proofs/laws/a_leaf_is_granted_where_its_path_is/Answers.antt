use Rattle.std.proofs.Common.{List}
use Rattle.ad_ids.specs.declared.guid.Guid.{Guid}
use Rattle.ad_access.specs.Grant.{granted}
use Rattle.ad_access.proofs.LeavesUp.{at_leaf}
use Rattle.ad_access.proofs.laws.a_leaf_is_granted_where_its_path_is.Goals as goal

pub returns : goal.returns
returns c = λ sd token self nodes place bit lt leaf.
    at_leaf nodes (λ (path : List Guid). granted sd.owner sd.dacl.entries token self path bit) place lt leaf
