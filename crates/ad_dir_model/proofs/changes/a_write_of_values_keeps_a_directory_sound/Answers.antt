use Rattle.ad_dir_model.proofs.Writing.{changed_sound}
use Rattle.ad_dir_model.proofs.changes.a_write_of_values_keeps_a_directory_sound.Goals as goal

pub returns : goal.returns
returns c = changed_sound
