use Rattle.ad_dn.proofs.KeyLaws.{same_of_keys, keys_of_same}
use Rattle.ad_dn.proofs.laws.names_of_one_key.Goals as goal

pub returns : goal.returns
returns c = λ a b p q. (same_of_keys a.rdns b.rdns p q, keys_of_same a.rdns b.rdns p q)
