use Rattle.ad_who.proofs.Telling.{told_is_allowed}
use Rattle.ad_who.proofs.laws.a_line_stands_where_the_token_is_told_yes.Goals as goal

pub returns : goal.returns
returns c = told_is_allowed
