use Rattle.ad_dir_model.proofs.Deleting.{deleted_sound}
use Rattle.ad_dir_model.proofs.changes.a_deletion_keeps_a_directory_sound.Goals as goal

pub returns : goal.returns
returns c = deleted_sound
