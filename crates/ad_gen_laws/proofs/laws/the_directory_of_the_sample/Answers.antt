use Rattle.ad_gen_laws.proofs.Loaded.{loaded_is}
use Rattle.ad_gen_laws.proofs.laws.the_directory_of_the_sample.Goals as goal

pub returns : goal.returns
returns c = loaded_is
