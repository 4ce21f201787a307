use Rattle.ad_principals.proofs.TokenLaws.{same_token}
use Rattle.ad_principals.proofs.laws.the_order_of_members_and_identifiers_is_free.Goals as goal

pub returns : goal.returns
returns c = same_token
