use Rattle.ad_dir_model.proofs.WorkLaws.{work_bounded}
use Rattle.ad_dir_model.proofs.propagation.the_work_is_bounded.Goals as goal

pub returns : goal.returns
returns c = work_bounded
