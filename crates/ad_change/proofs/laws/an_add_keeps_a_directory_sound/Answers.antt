use Rattle.ad_change.proofs.EffectSound.{add_keeps}
use Rattle.ad_change.proofs.Lower.{reads_back, sids_read}
use Rattle.ad_change.proofs.laws.an_add_keeps_a_directory_sound.Goals as goal

pub returns : goal.returns
returns c = add_keeps reads_back sids_read
