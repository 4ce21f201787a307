use Rattle.ad_ldap.proofs.FilterViews.{seen_and}
use Rattle.ad_ldap.proofs.filter.all_of.Goals as goal

pub returns : goal.returns
returns c = seen_and c.args.filters
