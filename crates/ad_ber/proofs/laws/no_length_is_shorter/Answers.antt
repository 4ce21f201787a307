use Rattle.ad_ber.proofs.Shortest.{length_shortest}
use Rattle.ad_ber.proofs.laws.no_length_is_shorter.Goals as goal

pub returns : goal.returns
returns c = length_shortest
