use Rattle.ad_dir_model.proofs.Running.{run_sound}
use Rattle.ad_dir_model.proofs.protection.a_protection_run_keeps_a_directory_sound.Goals as goal

pub returns : goal.returns
returns c = run_sound
