use Rattle.ad_text_laws.proofs.FactLaws.{holders_back}
use Rattle.ad_text_laws.proofs.who.the_lines_of_who_read_back.Goals as goal

pub returns : goal.returns
returns c = holders_back
