use Rattle.std.proofs.Common.{◌∙◌}
use Rattle.ad_principals.specs.Membership.{listed}
use Rattle.ad_principals.proofs.Identified.{all_live, members_of_all}
use Rattle.ad_principals.proofs.members.Members.of.Goals as goal

pub table_if-requires : goal.table_if-requires
table_if-requires c = all_live c.args.dir.now.objects c.as_slice.result.now
    (c.as_slice.ensures.value ∙ c.in_ok-numbers.ensures)

pub returns : goal.returns
returns c =
    members_of_all c.args.dir.now c.as_slice.result.now (listed c.in_ok-groups.groups)
    (c.as_slice.ensures.value ∙ c.in_ok-numbers.ensures) c.in_ok-groups.ensures
