use Rattle.ad_text_laws.proofs.FactLaws.{helds_back}
use Rattle.ad_text_laws.proofs.who.the_lines_of_can_read_back.Goals as goal

pub returns : goal.returns
returns c = helds_back
