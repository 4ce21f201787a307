use Rattle.ad_dir_model.proofs.EditLaws.{step_edited}
use Rattle.ad_dir_model.proofs.edits.the_edits_of_a_step_make_it.Goals as goal

pub returns : goal.returns
returns c = step_edited
