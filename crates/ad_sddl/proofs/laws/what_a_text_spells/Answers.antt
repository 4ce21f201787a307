use Rattle.ad_sddl.proofs.Texts.{text_takes, text_again}
use Rattle.ad_sddl.proofs.laws.what_a_text_spells.Goals as goal

pub returns : goal.returns
returns c = λ domain parts text. (text_takes domain text parts, text_again domain text parts)
