use Rattle.ad_principals.proofs.TokenLaws.{groups_within}
use Rattle.ad_principals.proofs.laws.more_members_give_no_fewer_groups.Goals as goal

pub returns : goal.returns
returns c = groups_within
