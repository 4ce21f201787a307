use Rattle.ad_diff.proofs.Refusals.{diff_either}
use Rattle.ad_diff.proofs.laws.no_difference_is_both_told_and_refused.Goals as goal

pub returns : goal.returns
returns c = λ before after answer line told refused. diff_either before after answer line told refused
