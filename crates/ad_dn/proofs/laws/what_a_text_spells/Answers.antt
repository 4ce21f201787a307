use Rattle.ad_dn.proofs.ReadOff.{dn_read, dn_again}
use Rattle.ad_dn.proofs.laws.what_a_text_spells.Goals as goal

pub returns : goal.returns
returns c = λ dn text. (dn_read text dn, dn_again text dn)
