use Rattle.ad_causes.proofs.NoCause.{no_cause}
use Rattle.ad_causes.proofs.laws.equal_directories_have_no_cause.Goals as goal

pub returns : goal.returns
returns c = no_cause
