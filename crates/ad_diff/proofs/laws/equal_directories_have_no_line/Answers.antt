use Rattle.ad_diff.proofs.NoLine.{no_line}
use Rattle.ad_diff.proofs.laws.equal_directories_have_no_line.Goals as goal

pub returns : goal.returns
returns c = λ dir text sound told. no_line dir text sound told
