use Rattle.ad_principal_laws.proofs.Tokens.{same_refusals}
use Rattle.ad_principal_laws.proofs.agreeing.directories_that_agree_refuse_the_same_tokens.Goals as goal

pub returns : goal.returns
returns c = same_refusals
