use Rattle.ad_gen_laws.proofs.Ldif.{story_is}
use Rattle.ad_gen_laws.proofs.laws.the_story_of_the_sample.Goals as goal

pub returns : goal.returns
returns c = story_is
