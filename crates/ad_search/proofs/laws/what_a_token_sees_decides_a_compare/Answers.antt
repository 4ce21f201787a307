use Rattle.ad_search.proofs.TwoWorlds.{same_compare}
use Rattle.ad_search.proofs.laws.what_a_token_sees_decides_a_compare.Goals as goal

pub returns : goal.returns
returns c = same_compare
