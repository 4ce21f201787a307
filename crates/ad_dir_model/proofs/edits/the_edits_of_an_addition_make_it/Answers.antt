use Rattle.ad_dir_model.proofs.EditLaws.{added_edited}
use Rattle.ad_dir_model.proofs.edits.the_edits_of_an_addition_make_it.Goals as goal

pub returns : goal.returns
returns c = added_edited
