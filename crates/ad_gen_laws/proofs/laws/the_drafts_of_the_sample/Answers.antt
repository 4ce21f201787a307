use Rattle.ad_gen_laws.proofs.Walk.{drafts_are}
use Rattle.ad_gen_laws.proofs.laws.the_drafts_of_the_sample.Goals as goal

pub returns : goal.returns
returns c = drafts_are
