use Rattle.ad_gen_laws.proofs.Linked.{objects_are}
use Rattle.ad_gen_laws.proofs.laws.the_objects_of_the_sample.Goals as goal

pub returns : goal.returns
returns c = objects_are
