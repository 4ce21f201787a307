use Rattle.ad_text_laws.proofs.RightsTexts.{rights_read}
use Rattle.ad_text_laws.proofs.rights.what_rights_prints_reads_back.Goals as goal

pub returns : goal.returns
returns c = rights_read
