use Rattle.ad_dir_model.proofs.ScratchLaws.{settled_scratch}
use Rattle.ad_dir_model.proofs.propagation.an_empty_queue_means_recomputed_from_the_root.Goals as goal

pub returns : goal.returns
returns c = λ dir number sound empty live. settled_scratch dir sound empty number live
