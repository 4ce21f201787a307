use Rattle.ad_questions.proofs.NeedsLaws.{write_is, write_resets, reset_is, join_is, dacl_is, owner_is, delete_is, add_is}
use Rattle.ad_questions.proofs.laws.a_question_asks_for_what_the_request_needs.Goals as goal

pub returns-clause-write : goal.returns-clause-write
returns-clause-write c = write_is

pub returns-clause-write_password : goal.returns-clause-write_password
returns-clause-write_password c = write_resets

pub returns-clause-reset : goal.returns-clause-reset
returns-clause-reset c = reset_is

pub returns-clause-join : goal.returns-clause-join
returns-clause-join c = join_is

pub returns-clause-dacl : goal.returns-clause-dacl
returns-clause-dacl c = dacl_is

pub returns-clause-owner : goal.returns-clause-owner
returns-clause-owner c = owner_is

pub returns-clause-delete : goal.returns-clause-delete
returns-clause-delete c = delete_is

pub returns-clause-add : goal.returns-clause-add
returns-clause-add c = add_is
