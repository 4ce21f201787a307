use Rattle.std.proofs.Common.{List, subst}
use Rattle.ad_schema.specs.declared.line.SchemaRecord.{SchemaRecord}
use Rattle.ad_ldap.specs.FilterValue as filter
use Rattle.ad_search.specs.Needles.{IsNeedle}
use Rattle.ad_search.proofs.NeedLaws.{as_like}
use Rattle.ad_search.proofs.index_plan.plan_of_equal.Goals as goal

pub returns-in_ok-one_of-in-Some-clause-like : goal.returns-in_ok-one_of-in-Some-clause-like
returns-in_ok-one_of-in-Some-clause-like c =
    let name = c.args.name.now in
    let sent = c.args.sent.now in
    c.in_ok-one_of-in-Some.ensures (filter.Like name sent)
    (subst (λ (records : List SchemaRecord). IsNeedle records (filter.Like name sent) c.in-Some.needle)
    c.schema.ensures
    (as_like c.schema.result.now name sent c.in-Some.needle (rw c.in-Some.is at c.in_ok-needle.ensures)))
