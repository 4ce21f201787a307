use Rattle.ad_search_laws.proofs.Creating.{told_by_others}
use Rattle.ad_search_laws.proofs.children.an_addition_of_a_class_that_is_told_is_not_refused_for_its_class.Goals as goal

pub returns : goal.returns
returns c = told_by_others
