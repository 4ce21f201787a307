use Rattle.ad_dir_model.proofs.Adding.{added_sound}
use Rattle.ad_dir_model.proofs.changes.an_addition_keeps_a_directory_sound.Goals as goal

pub returns : goal.returns
returns c = added_sound
