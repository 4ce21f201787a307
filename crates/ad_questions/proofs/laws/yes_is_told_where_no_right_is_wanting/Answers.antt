use Rattle.ad_questions.proofs.ToldLaws.{delete_told, modify_told, add_told}
use Rattle.ad_questions.proofs.laws.yes_is_told_where_no_right_is_wanting.Goals as goal

pub returns-clause-delete : goal.returns-clause-delete
returns-clause-delete c = delete_told

pub returns-clause-modify : goal.returns-clause-modify
returns-clause-modify c = modify_told

pub returns-clause-add : goal.returns-clause-add
returns-clause-add c = add_told
