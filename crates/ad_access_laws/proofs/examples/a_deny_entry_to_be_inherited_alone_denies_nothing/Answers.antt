use Rattle.std.proofs.Common.{refl}
use Rattle.ad_acl.specs.Mask.{has_bit}
use Rattle.ad_access.specs.Matching.{matches, speaks}
use Rattle.ad_access.specs.Grant.{granted_by_entries, granted_as_owner}
use Rattle.ad_access_laws.proofs.examples.a_deny_entry_to_be_inherited_alone_denies_nothing.Goals as goal

pub returns-clause-here : goal.returns-clause-here
unfolding has_bit matches speaks granted_by_entries granted_as_owner
returns-clause-here c = refl

pub returns-clause-below : goal.returns-clause-below
unfolding has_bit matches speaks granted_by_entries granted_as_owner
returns-clause-below c = refl
