use Rattle.ad_dir_model.proofs.RunEdits.{run_edited}
use Rattle.ad_dir_model.proofs.edits.the_edits_of_a_protection_run_make_it.Goals as goal

pub returns : goal.returns
returns c = run_edited
