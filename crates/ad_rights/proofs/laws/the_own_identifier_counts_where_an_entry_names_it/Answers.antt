use Rattle.ad_rights.proofs.Granting.{sets_alike}
use Rattle.ad_rights.proofs.laws.the_own_identifier_counts_where_an_entry_names_it.Goals as goal

pub returns : goal.returns
returns c = λ sd tokens self other path bit none. sets_alike sd tokens self other path bit none
