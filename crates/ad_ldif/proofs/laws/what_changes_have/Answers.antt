use Rattle.ad_ldif.proofs.ChangeLaws.{changes_ops, changes_few}
use Rattle.ad_ldif.proofs.laws.what_changes_have.Goals as goal

pub returns-clause-ops : goal.returns-clause-ops
returns-clause-ops c = λ text. changes_ops text

pub returns-clause-few : goal.returns-clause-few
returns-clause-few c = λ text. changes_few text
