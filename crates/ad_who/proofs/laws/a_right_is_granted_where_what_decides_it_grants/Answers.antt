use Rattle.ad_who.proofs.Deciding.{granted_decided}
use Rattle.ad_who.proofs.laws.a_right_is_granted_where_what_decides_it_grants.Goals as goal

pub returns : goal.returns
returns c = λ owner dacl token self path bit none. granted_decided owner dacl token self path bit none
