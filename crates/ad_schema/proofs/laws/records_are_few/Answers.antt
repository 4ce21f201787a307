use Rattle.ad_schema.proofs.SoundLemmas as sound
use Rattle.ad_schema.proofs.laws.records_are_few.Goals as goal

pub returns : goal.returns
returns c = sound.are_few
