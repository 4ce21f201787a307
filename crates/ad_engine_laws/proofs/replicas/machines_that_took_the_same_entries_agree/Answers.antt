use Rattle.std.proofs.Common.{ap}
use Rattle.ad_dir_model.specs.Directory.{Directory}
use Rattle.ad_engine_answer.specs.Messages.{message_decided}
use Rattle.ad_engine_laws.specs.Log.{answer_to}
use Rattle.ad_engine_laws.proofs.Taking.{agreed}
use Rattle.ad_engine_laws.proofs.replicas.machines_that_took_the_same_entries_agree.Goals as goal

pub returns-clause-directory : goal.returns-clause-directory
returns-clause-directory c = agreed c.other_frames_do_not_count.ensures

pub returns-clause-answer : goal.returns-clause-answer
returns-clause-answer c = λ dir here there entry a b same.
    ap (λ (d : Directory). answer_to d entry) (agreed c.other_frames_do_not_count.ensures dir here there a b same)

pub returns-clause-rights : goal.returns-clause-rights
returns-clause-rights c = λ dir here there token bytes a b same.
    ap (λ (d : Directory). message_decided d token bytes)
    (agreed c.other_frames_do_not_count.ensures dir here there a b same)
