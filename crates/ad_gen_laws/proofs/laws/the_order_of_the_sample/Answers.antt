use Rattle.ad_gen_laws.proofs.Order.{order_is}
use Rattle.ad_gen_laws.proofs.laws.the_order_of_the_sample.Goals as goal

pub returns : goal.returns
returns c = order_is
