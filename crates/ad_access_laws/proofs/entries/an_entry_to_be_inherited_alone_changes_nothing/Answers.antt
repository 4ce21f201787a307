use Rattle.ad_access_laws.proofs.OneEntry.{grants_the_same}
use Rattle.ad_access_laws.proofs.entries.an_entry_to_be_inherited_alone_changes_nothing.Goals as goal

pub returns : goal.returns
returns c = grants_the_same
