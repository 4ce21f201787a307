use Rattle.ad_gen_laws.proofs.Schema.{records_are}
use Rattle.ad_gen_laws.proofs.laws.the_records_of_the_sample.Goals as goal

pub returns : goal.returns
returns c = records_are
