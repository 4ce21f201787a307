use Rattle.std.proofs.Common.{refl}
use Rattle.ad_acl.specs.Mask.{has_bit}
use Rattle.ad_access.specs.Matching.{matches, speaks}
use Rattle.ad_access.specs.Grant.{granted_by_entries, granted_as_owner}
use Rattle.ad_access_laws.proofs.examples.an_entry_less_for_the_owner_may_grant_more.Goals as goal

pub returns-clause-with : goal.returns-clause-with
unfolding has_bit matches speaks granted_by_entries granted_as_owner
returns-clause-with c = refl

pub returns-clause-without : goal.returns-clause-without
unfolding has_bit matches speaks granted_by_entries granted_as_owner
returns-clause-without c = refl
