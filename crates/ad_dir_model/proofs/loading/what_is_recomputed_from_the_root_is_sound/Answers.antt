use Rattle.ad_dir_model.proofs.Recomputing.{recomputed_sound, recomputed_empty, recomputed_explicit}
use Rattle.ad_dir_model.proofs.loading.what_is_recomputed_from_the_root_is_sound.Goals as goal

pub returns-clause-sound : goal.returns-clause-sound
returns-clause-sound c = recomputed_sound

pub returns-clause-empty : goal.returns-clause-empty
returns-clause-empty c = recomputed_empty

pub returns-clause-explicit : goal.returns-clause-explicit
returns-clause-explicit c = recomputed_explicit
