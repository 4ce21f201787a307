use Rattle.ad_ldap.proofs.FilterViews.{seen_or}
use Rattle.ad_ldap.proofs.filter.any_of.Goals as goal

pub returns : goal.returns
returns c = seen_or c.args.filters
