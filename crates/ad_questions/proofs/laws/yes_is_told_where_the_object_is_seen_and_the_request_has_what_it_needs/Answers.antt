use Rattle.ad_questions.proofs.Sighted.{told_is}
use Rattle.ad_questions.proofs.laws.yes_is_told_where_the_object_is_seen_and_the_request_has_what_it_needs.Goals as goal

pub returns : goal.returns
returns c = told_is
