use Rattle.ad_principals.proofs.Remaining.{too_many}
use Rattle.ad_principals.proofs.laws.who_has_too_many_groups_has_no_token.Goals as goal

pub returns : goal.returns
returns c = too_many
