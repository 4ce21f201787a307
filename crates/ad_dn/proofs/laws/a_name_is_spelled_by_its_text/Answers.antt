use Rattle.ad_dn.proofs.Spelled.{rdns_spelled}
use Rattle.ad_dn.proofs.laws.a_name_is_spelled_by_its_text.Goals as goal

pub returns : goal.returns
returns c = λ dn all. rdns_spelled dn.rdns all
