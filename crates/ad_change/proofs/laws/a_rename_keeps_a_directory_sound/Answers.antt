use Rattle.ad_change.proofs.EffectSound.{rename_keeps}
use Rattle.ad_change.proofs.laws.a_rename_keeps_a_directory_sound.Goals as goal

pub returns : goal.returns
returns c = rename_keeps
