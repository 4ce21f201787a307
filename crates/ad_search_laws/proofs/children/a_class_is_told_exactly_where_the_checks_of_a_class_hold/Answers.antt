use Rattle.ad_search_laws.proofs.Creating.{told_is_own}
use Rattle.ad_search_laws.proofs.children.a_class_is_told_exactly_where_the_checks_of_a_class_hold.Goals as goal

pub returns : goal.returns
returns c = told_is_own
