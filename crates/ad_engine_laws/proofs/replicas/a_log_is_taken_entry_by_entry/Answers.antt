use Rattle.ad_engine_laws.proofs.Taking.{applied_both, taken_both}
use Rattle.ad_engine_laws.proofs.replicas.a_log_is_taken_entry_by_entry.Goals as goal

pub returns-clause-entries : goal.returns-clause-entries
returns-clause-entries c = applied_both

pub returns-clause-frames : goal.returns-clause-frames
returns-clause-frames c = taken_both c.other_frames_do_not_count.ensures
