use Rattle.ad_identities.proofs.Tokens.{one_token}
use Rattle.ad_identities.proofs.laws.an_identity_has_one_token.Goals as goal

pub returns : goal.returns
returns c = one_token
