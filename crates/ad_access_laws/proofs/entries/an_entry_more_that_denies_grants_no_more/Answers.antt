use Rattle.ad_access_laws.proofs.OneEntry.{grants_no_more}
use Rattle.ad_access_laws.proofs.entries.an_entry_more_that_denies_grants_no_more.Goals as goal

pub returns : goal.returns
returns c = grants_no_more
