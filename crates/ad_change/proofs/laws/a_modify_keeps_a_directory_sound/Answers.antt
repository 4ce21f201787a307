use Rattle.ad_change.proofs.EffectSound.{modify_keeps}
use Rattle.ad_change.proofs.Lower.{reads_back}
use Rattle.ad_change.proofs.laws.a_modify_keeps_a_directory_sound.Goals as goal

pub returns : goal.returns
returns c = modify_keeps reads_back
