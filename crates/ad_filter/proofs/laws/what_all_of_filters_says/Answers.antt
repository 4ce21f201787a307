use Rattle.ad_filter.proofs.FilterLaws.{says_all}
use Rattle.ad_filter.proofs.laws.what_all_of_filters_says.Goals as goal

pub returns : goal.returns
returns c = says_all
