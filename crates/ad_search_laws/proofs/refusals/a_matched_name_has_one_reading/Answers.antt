use Rattle.ad_search_laws.proofs.Unseen.{matched_is}
use Rattle.ad_search_laws.proofs.refusals.a_matched_name_has_one_reading.Goals as goal

pub returns : goal.returns
returns c = λ dir token rdns sound. matched_is dir token sound rdns
