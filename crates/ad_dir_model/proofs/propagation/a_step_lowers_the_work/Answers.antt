use Rattle.ad_dir_model.proofs.WorkLaws.{work_falls}
use Rattle.ad_dir_model.proofs.propagation.a_step_lowers_the_work.Goals as goal

pub returns : goal.returns
returns c = work_falls
