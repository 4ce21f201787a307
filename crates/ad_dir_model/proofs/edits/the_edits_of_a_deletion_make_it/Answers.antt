use Rattle.ad_dir_model.proofs.EditLaws.{deleted_edited}
use Rattle.ad_dir_model.proofs.edits.the_edits_of_a_deletion_make_it.Goals as goal

pub returns : goal.returns
returns c = deleted_edited
