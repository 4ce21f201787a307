use Rattle.ad_text_laws.proofs.DiffLaws.{diff_lines_back}
use Rattle.ad_text_laws.proofs.diff.the_lines_of_diff_read_back.Goals as goal

pub returns : goal.returns
returns c = diff_lines_back
