use Rattle.ad_dir_model.proofs.Running.{IsDone}
use Rattle.ad_dir_model.proofs.SecondRun.{run_done, run_leaves, run_nothing}
use Rattle.ad_dir_model.proofs.protection.a_protection_run_gives_the_frozen_descriptor.Goals as goal

pub returns-clause-descriptor : goal.returns-clause-descriptor
returns-clause-descriptor c = λ dir holder number sound is in_set. (run_done dir holder number sound is in_set).sd_is

pub returns-clause-count : goal.returns-clause-count
returns-clause-count c = λ dir holder number sound is in_set. (run_done dir holder number sound is in_set).marked

pub returns-clause-others : goal.returns-clause-others
returns-clause-others c = run_leaves

pub returns-clause-nothing : goal.returns-clause-nothing
returns-clause-nothing c = run_nothing
