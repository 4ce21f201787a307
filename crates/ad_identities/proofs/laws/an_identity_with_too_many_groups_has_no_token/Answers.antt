use Rattle.ad_identities.proofs.Tokens.{no_token}
use Rattle.ad_identities.proofs.laws.an_identity_with_too_many_groups_has_no_token.Goals as goal

pub returns : goal.returns
returns c = no_token
