use Rattle.ad_access.proofs.Alike.{granted_alike}
use Rattle.ad_access.proofs.laws.the_own_identifier_counts_by_who_answers_to_it.Goals as goal

pub returns : goal.returns
returns c = λ owner dacl token self other path bit alike. granted_alike owner dacl token self other path bit alike
