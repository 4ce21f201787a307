use Rattle.ad_change.proofs.EffectSound.{delete_keeps}
use Rattle.ad_change.proofs.laws.a_delete_keeps_a_directory_sound.Goals as goal

pub returns : goal.returns
returns c = delete_keeps
