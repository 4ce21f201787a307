use Rattle.ad_policies.proofs.Climbing.{above_alike}
use Rattle.ad_policies.proofs.Putting.{policies_alike}
use Rattle.ad_policies.proofs.laws.a_container_s_objects_have_the_same_policies.Goals as goal

pub returns-clause-above : goal.returns-clause-above
returns-clause-above c = above_alike

pub returns-clause-policies : goal.returns-clause-policies
returns-clause-policies c = λ dir a b first second same.
    policies_alike dir a b (above_alike dir a b first second same)
