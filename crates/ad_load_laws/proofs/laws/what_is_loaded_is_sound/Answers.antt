use Rattle.ad_dir_model.proofs.ScratchLaws.{settled_scratch}
use Rattle.ad_load_laws.proofs.SoundText.{sound_text, nothing_pends}
use Rattle.ad_load_laws.proofs.laws.what_is_loaded_is_sound.Goals as goal

pub returns-clause-sound : goal.returns-clause-sound
returns-clause-sound c = sound_text c.what_is_shown_reads_back.ensures.read

pub returns-clause-empty : goal.returns-clause-empty
returns-clause-empty c = nothing_pends

pub returns-clause-scratch : goal.returns-clause-scratch
returns-clause-scratch c = λ text dir number fits is live.
    settled_scratch dir (sound_text c.what_is_shown_reads_back.ensures.read text dir fits is)
    (nothing_pends text dir is) number live
