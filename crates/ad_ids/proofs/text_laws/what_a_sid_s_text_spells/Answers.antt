use Rattle.ad_ids.proofs.SidFront.{spells_of, spelled_of}
use Rattle.ad_ids.proofs.text_laws.what_a_sid_s_text_spells.Goals as goal

pub returns : goal.returns
returns c = λ sid text. (spells_of sid text, spelled_of sid text)
