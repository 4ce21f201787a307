use Rattle.ad_identities.proofs.Listed.{principal_listed}
use Rattle.ad_identities.proofs.laws.each_principal_is_an_identity.Goals as goal

pub returns : goal.returns
returns c = principal_listed
