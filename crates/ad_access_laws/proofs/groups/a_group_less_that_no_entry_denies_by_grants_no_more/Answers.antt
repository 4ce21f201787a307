use Rattle.ad_access_laws.proofs.OneGroup.{group_less}
use Rattle.ad_access_laws.proofs.groups.a_group_less_that_no_entry_denies_by_grants_no_more.Goals as goal

pub returns : goal.returns
returns c = group_less
