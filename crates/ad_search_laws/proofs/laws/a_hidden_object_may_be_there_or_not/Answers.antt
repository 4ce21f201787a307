use Rattle.ad_search_laws.proofs.Worlds.{hidden_differs}
use Rattle.ad_search_laws.proofs.laws.a_hidden_object_may_be_there_or_not.Goals as goal

pub returns : goal.returns
returns c = hidden_differs
