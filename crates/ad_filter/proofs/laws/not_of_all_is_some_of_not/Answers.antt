use Rattle.ad_filter.proofs.FilterLaws.{not_all}
use Rattle.ad_filter.proofs.laws.not_of_all_is_some_of_not.Goals as goal

pub returns : goal.returns
returns c = not_all
