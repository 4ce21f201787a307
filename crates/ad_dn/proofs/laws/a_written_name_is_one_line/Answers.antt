use Rattle.ad_dn.proofs.OneLine.{rdns_shown}
use Rattle.ad_dn.proofs.laws.a_written_name_is_one_line.Goals as goal

pub returns : goal.returns
returns c dn all = rdns_shown dn.rdns all
