use Rattle.ad_questions.proofs.TextLaws.{right_is}
use Rattle.ad_questions.proofs.laws.a_right_is_asked_for_by_its_text.Goals as goal

pub returns : goal.returns
returns c = right_is
