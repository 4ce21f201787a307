use Rattle.ad_audit.specs.Audited.{audited}
use Rattle.ad_audit.proofs.Asking.{none_of_them}
use Rattle.ad_audit.proofs.laws.a_list_that_asks_for_nothing_audits_nothing.Goals as goal

pub returns : goal.returns
unfolding audited
returns c = λ sd token self path right success none. none_of_them sd.sacl.entries 0 sd.owner token self path right
    success none
