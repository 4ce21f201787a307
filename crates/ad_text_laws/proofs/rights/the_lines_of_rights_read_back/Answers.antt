use Rattle.ad_text_laws.proofs.RightsLaws.{rights_lines_back}
use Rattle.ad_text_laws.proofs.rights.the_lines_of_rights_read_back.Goals as goal

pub returns : goal.returns
returns c = rights_lines_back
