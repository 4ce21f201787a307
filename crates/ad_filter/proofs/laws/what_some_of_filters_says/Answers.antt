use Rattle.ad_filter.proofs.FilterLaws.{says_some}
use Rattle.ad_filter.proofs.laws.what_some_of_filters_says.Goals as goal

pub returns : goal.returns
returns c = says_some
