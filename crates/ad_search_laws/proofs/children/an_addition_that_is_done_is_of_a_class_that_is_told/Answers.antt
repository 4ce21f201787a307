use Rattle.ad_search_laws.proofs.Creating.{done_was_told}
use Rattle.ad_search_laws.proofs.children.an_addition_that_is_done_is_of_a_class_that_is_told.Goals as goal

pub returns : goal.returns
returns c = done_was_told
