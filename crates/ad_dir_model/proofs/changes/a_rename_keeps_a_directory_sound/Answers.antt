use Rattle.ad_dir_model.proofs.Renaming.{renamed_sound}
use Rattle.ad_dir_model.proofs.changes.a_rename_keeps_a_directory_sound.Goals as goal

pub returns : goal.returns
returns c = renamed_sound
