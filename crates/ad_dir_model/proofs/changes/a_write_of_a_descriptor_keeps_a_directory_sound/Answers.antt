use Rattle.ad_dir_model.proofs.Writing.{written_sound}
use Rattle.ad_dir_model.proofs.changes.a_write_of_a_descriptor_keeps_a_directory_sound.Goals as goal

pub returns : goal.returns
returns c = written_sound
