use Rattle.ad_principal_laws.proofs.Written.{may_write}
use Rattle.ad_principal_laws.proofs.writing.what_a_modify_changes_it_may_write.Goals as goal

pub returns : goal.returns
returns c = may_write
