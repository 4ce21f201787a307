use Rattle.ad_principal_laws.proofs.Putting.{rename_agrees}
use Rattle.ad_principal_laws.proofs.keeping.a_rename_leaves_each_token.Goals as goal

pub returns : goal.returns
returns c = rename_agrees
