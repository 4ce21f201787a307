use Rattle.ad_rights.proofs.Granting.{set_at}
use Rattle.ad_rights.proofs.laws.what_one_token_is_granted.Goals as goal

pub returns : goal.returns
returns c = λ sd tokens self path bit place token is. set_at sd tokens self path bit place token is
