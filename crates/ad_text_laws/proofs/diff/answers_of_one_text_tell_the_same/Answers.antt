use Rattle.ad_text_laws.proofs.DiffReads.{same_text}
use Rattle.ad_text_laws.proofs.diff.answers_of_one_text_tell_the_same.Goals as goal

pub returns : goal.returns
returns c = same_text
