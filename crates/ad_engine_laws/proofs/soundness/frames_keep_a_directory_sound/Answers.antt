use Rattle.ad_engine.specs.Runs.{no_tokens}
use Rattle.ad_engine_laws.proofs.Staying.{frames_sound}
use Rattle.ad_engine_laws.proofs.soundness.frames_keep_a_directory_sound.Goals as goal

pub returns-clause-from : goal.returns-clause-from
returns-clause-from c = frames_sound c.an_answer_keeps_a_directory_sound.ensures.answer

pub returns-clause-after : goal.returns-clause-after
returns-clause-after c = λ dir frames sound fits. frames_sound c.an_answer_keeps_a_directory_sound.ensures.answer dir
    no_tokens frames sound fits
