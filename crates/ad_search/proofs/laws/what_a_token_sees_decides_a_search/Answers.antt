use Rattle.ad_search.proofs.TwoWorlds.{same_search}
use Rattle.ad_search.proofs.laws.what_a_token_sees_decides_a_search.Goals as goal

pub returns : goal.returns
returns c = same_search
