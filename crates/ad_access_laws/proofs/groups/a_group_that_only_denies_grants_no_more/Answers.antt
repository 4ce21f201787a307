use Rattle.ad_access_laws.proofs.OneGroup.{group_denying}
use Rattle.ad_access_laws.proofs.groups.a_group_that_only_denies_grants_no_more.Goals as goal

pub returns : goal.returns
returns c = group_denying
