use Rattle.ad_dn.proofs.Spelled.{spelled_are}
use Rattle.ad_dn.proofs.laws.a_spelled_name_has_its_form.Goals as goal

pub returns : goal.returns
returns c = λ dn text s. spelled_are dn.rdns text s
