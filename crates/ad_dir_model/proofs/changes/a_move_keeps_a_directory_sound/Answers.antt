use Rattle.ad_dir_model.proofs.Writing.{moved_sound}
use Rattle.ad_dir_model.proofs.changes.a_move_keeps_a_directory_sound.Goals as goal

pub returns : goal.returns
returns c = moved_sound
