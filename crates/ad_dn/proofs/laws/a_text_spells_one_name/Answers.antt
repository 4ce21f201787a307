use Rattle.std.proofs.Common.{sym, ◌∙◌}
use Rattle.std.proofs.lemmas.Option.{same_Some}
use Rattle.ad_dn.proofs.ReadOff.{dn_again}
use Rattle.ad_dn.proofs.laws.a_text_spells_one_name.Goals as goal

pub returns : goal.returns
returns c = λ a b text p q. same_Some a b (sym (dn_again text a p) ∙ dn_again text b q)
