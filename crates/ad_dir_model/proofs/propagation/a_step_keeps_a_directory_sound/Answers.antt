use Rattle.ad_dir_model.proofs.StepSound.{step_sound}
use Rattle.ad_dir_model.proofs.propagation.a_step_keeps_a_directory_sound.Goals as goal

pub returns : goal.returns
returns c = step_sound
