use Rattle.std.proofs.Common.{List}
use Rattle.ad_ids.specs.declared.guid.Guid.{Guid}
use Rattle.ad_access.specs.Grant.{granted}
use Rattle.ad_access.proofs.LeavesUp.{at_inner}
use Rattle.ad_access.proofs.laws.an_inner_node_is_granted_where_its_children_are.Goals as goal

pub returns : goal.returns
returns c = λ sd token self nodes place bit tree lt inner.
    at_inner nodes (λ (path : List Guid). granted sd.owner sd.dacl.entries token self path bit) place tree lt inner
