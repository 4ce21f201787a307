use Rattle.ad_ldap.proofs.FilterViews.{seen_and, seen_or}
use Rattle.ad_ldap.proofs.laws.what_is_seen_of_filters.Goals as goal

pub returns-clause-all : goal.returns-clause-all
returns-clause-all c = seen_and

pub returns-clause-any : goal.returns-clause-any
returns-clause-any c = seen_or
