use Rattle.ad_search_laws.proofs.Worlds.{values_differ}
use Rattle.ad_search_laws.proofs.laws.a_value_that_may_not_be_read_may_be_any.Goals as goal

pub returns : goal.returns
returns c = values_differ
