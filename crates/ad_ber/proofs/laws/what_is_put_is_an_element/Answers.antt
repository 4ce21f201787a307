use Rattle.ad_ber.proofs.Shortest.{element_spelled}
use Rattle.ad_ber.proofs.laws.what_is_put_is_an_element.Goals as goal

pub returns : goal.returns
returns c = element_spelled
