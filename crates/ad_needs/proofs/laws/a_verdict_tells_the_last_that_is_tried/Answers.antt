use Rattle.ad_needs.proofs.VerdictLaws.{missing_tells, granted_tells}
use Rattle.ad_needs.proofs.laws.a_verdict_tells_the_last_that_is_tried.Goals as goal

pub returns-clause-missing : goal.returns-clause-missing
returns-clause-missing c = missing_tells

pub returns-clause-granted : goal.returns-clause-granted
returns-clause-granted c = granted_tells
