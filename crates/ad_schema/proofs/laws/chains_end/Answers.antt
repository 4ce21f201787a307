use Rattle.ad_schema.proofs.SoundLemmas as sound
use Rattle.ad_schema.proofs.laws.chains_end.Goals as goal

pub returns : goal.returns
returns c = sound.chains_end
