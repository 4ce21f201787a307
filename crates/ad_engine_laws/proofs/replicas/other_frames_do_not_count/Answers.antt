use Rattle.ad_engine_laws.proofs.Taking.{taken_all}
use Rattle.ad_engine_laws.proofs.replicas.other_frames_do_not_count.Goals as goal

pub returns : goal.returns
returns c = taken_all
