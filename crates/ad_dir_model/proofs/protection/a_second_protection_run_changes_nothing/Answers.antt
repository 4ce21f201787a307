use Rattle.ad_dir_model.proofs.SecondRun.{second_run}
use Rattle.ad_dir_model.proofs.protection.a_second_protection_run_changes_nothing.Goals as goal

pub returns : goal.returns
returns c = second_run
