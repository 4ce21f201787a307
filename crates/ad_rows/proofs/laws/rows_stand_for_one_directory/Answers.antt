use Rattle.ad_rows.proofs.Once.{one_directory}
use Rattle.ad_rows.proofs.laws.rows_stand_for_one_directory.Goals as goal

pub returns : goal.returns
returns c = one_directory
