use Rattle.ad_schema.proofs.SoundLemmas as sound
use Rattle.ad_schema.proofs.laws.names_are_distinct.Goals as goal

pub returns : goal.returns
returns c = sound.names_distinct
