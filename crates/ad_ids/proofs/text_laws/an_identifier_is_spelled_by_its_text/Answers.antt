use Rattle.ad_ids.proofs.SidTextWriting.{spelled_by_text}
use Rattle.ad_ids.proofs.text_laws.an_identifier_is_spelled_by_its_text.Goals as goal

pub returns : goal.returns
returns c = spelled_by_text
