use Rattle.ad_principal_laws.proofs.Putting.{steps_agree}
use Rattle.ad_principal_laws.proofs.keeping.steps_leave_each_token.Goals as goal

pub returns : goal.returns
returns c = steps_agree
