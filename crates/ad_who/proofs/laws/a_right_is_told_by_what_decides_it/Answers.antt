use Rattle.ad_who.proofs.Telling.{right_is_told}
use Rattle.ad_who.proofs.laws.a_right_is_told_by_what_decides_it.Goals as goal

pub returns : goal.returns
returns c = right_is_told
