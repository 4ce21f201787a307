use Rattle.ad_questions.proofs.Sighted.{seen_is}
use Rattle.ad_questions.proofs.laws.an_object_is_seen_where_what_that_needs_is_met.Goals as goal

pub returns : goal.returns
returns c = seen_is
