use Rattle.ad_gen_laws.proofs.Differ.{units_differ, users_differ, user_sid_read}
use Rattle.ad_gen_laws.proofs.laws.the_users_of_the_sample.Goals as goal

pub returns : goal.returns
returns c = record { units = units_differ; names = users_differ; identifiers = user_sid_read }
