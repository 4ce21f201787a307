use Rattle.ad_search.proofs.GivenNumbers.{has_entries}
use Rattle.ad_search.proofs.laws.what_is_tried_is_of_the_entries_of_the_answer.Goals as goal

pub returns : goal.returns
returns c = has_entries
