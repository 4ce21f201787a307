use Rattle.ad_access_laws.proofs.OneEntry.{grants_no_less}
use Rattle.ad_access_laws.proofs.entries.an_entry_less_that_allows_grants_no_more.Goals as goal

pub returns : goal.returns
returns c = grants_no_less
