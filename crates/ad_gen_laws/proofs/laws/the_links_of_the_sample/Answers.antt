use Rattle.ad_gen_laws.proofs.Limits.{linked_is}
use Rattle.ad_gen_laws.proofs.laws.the_links_of_the_sample.Goals as goal

pub returns : goal.returns
returns c = linked_is
