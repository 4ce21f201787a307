use Rattle.ad_dir_model.proofs.Recomputing.{recomputed_empty}
use Rattle.ad_gen_laws.specs.Before.{unsettled_sample}
use Rattle.ad_gen_laws.specs.Sound.{sample_directory}
use Rattle.ad_gen_laws.proofs.SoundSample.{sample_sound, pended_sound, sample_attributes, sample_classes, sample_root}
use Rattle.ad_gen_laws.proofs.SoundSample.{sample_below, sample_inherits}
use Rattle.ad_gen_laws.proofs.soundness.the_sample_is_sound.Goals as goal

pub returns-clause-sound : goal.returns-clause-sound
returns-clause-sound c = λ n some few.
    sample_sound c.what_is_shown_reads_back.ensures.read n few (c.the_story_of_the_sample.ensures n few)
    (c.the_directory_of_the_sample.ensures n some few)

pub returns-clause-pending : goal.returns-clause-pending
returns-clause-pending c = λ n some few.
    pended_sound (sample_directory n)
    (sample_sound c.what_is_shown_reads_back.ensures.read n few (c.the_story_of_the_sample.ensures n few)
    (c.the_directory_of_the_sample.ensures n some few))
    (recomputed_empty (unsettled_sample n))

pub returns-clause-attributes : goal.returns-clause-attributes
returns-clause-attributes c = sample_attributes

pub returns-clause-classes : goal.returns-clause-classes
returns-clause-classes c = sample_classes

pub returns-clause-root : goal.returns-clause-root
returns-clause-root c = sample_root

pub returns-clause-below : goal.returns-clause-below
returns-clause-below c = sample_below

pub returns-clause-inherits : goal.returns-clause-inherits
returns-clause-inherits c = sample_inherits
