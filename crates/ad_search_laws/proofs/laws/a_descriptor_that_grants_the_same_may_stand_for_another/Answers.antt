use Rattle.ad_search_laws.proofs.Worlds.{descriptors_differ}
use Rattle.ad_search_laws.proofs.laws.a_descriptor_that_grants_the_same_may_stand_for_another.Goals as goal

pub returns : goal.returns
returns c = descriptors_differ
