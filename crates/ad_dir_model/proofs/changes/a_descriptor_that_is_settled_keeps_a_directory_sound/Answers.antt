use Rattle.ad_dir_model.proofs.Writing.{stored_sound}
use Rattle.ad_dir_model.proofs.changes.a_descriptor_that_is_settled_keeps_a_directory_sound.Goals as goal

pub returns : goal.returns
returns c = stored_sound
