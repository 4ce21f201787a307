use Rattle.ad_principal_laws.proofs.Putting.{modify_agrees}
use Rattle.ad_principal_laws.proofs.keeping.a_modify_of_other_attributes_leaves_each_token.Goals as goal

pub returns : goal.returns
returns c = modify_agrees
