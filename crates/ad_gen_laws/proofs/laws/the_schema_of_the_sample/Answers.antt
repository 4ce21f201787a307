use Rattle.ad_gen_laws.proofs.Schema.{schema_is}
use Rattle.ad_gen_laws.proofs.laws.the_schema_of_the_sample.Goals as goal

pub returns : goal.returns
returns c = schema_is
