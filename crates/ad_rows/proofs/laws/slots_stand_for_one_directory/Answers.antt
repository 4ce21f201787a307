use Rattle.ad_rows.proofs.Once.{one_store}
use Rattle.ad_rows.proofs.laws.slots_stand_for_one_directory.Goals as goal

pub returns : goal.returns
returns c = one_store
