use Rattle.ad_search.proofs.FoundLaws.{named_found}
use Rattle.ad_search.proofs.laws.whatever_has_a_name_is_found_by_it.Goals as goal

pub returns : goal.returns
returns c = named_found
