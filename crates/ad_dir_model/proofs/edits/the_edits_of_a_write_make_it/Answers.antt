use Rattle.ad_dir_model.proofs.EditLaws.{changed_edited, stored_edited, written_edited, renamed_edited}
use Rattle.ad_dir_model.proofs.edits.the_edits_of_a_write_make_it.Goals as goal

pub returns-clause-values : goal.returns-clause-values
returns-clause-values c = changed_edited

pub returns-clause-descriptor : goal.returns-clause-descriptor
returns-clause-descriptor c = written_edited

pub returns-clause-as_it_is : goal.returns-clause-as_it_is
returns-clause-as_it_is c = stored_edited

pub returns-clause-rename : goal.returns-clause-rename
returns-clause-rename c = renamed_edited
