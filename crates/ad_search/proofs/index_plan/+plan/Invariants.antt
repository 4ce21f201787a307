use Rattle.std.proofs.Common.{◌+◌, ◌*◌, map}
use Rattle.std.specs.List.{AllByRecursion}
use Rattle.ad_ldap.specs.FilterValue.{filter_seen, filters_of, depth, depth_of_all}
use Rattle.ad_ldap.specs.FilterValue as filter
use Rattle.ad_search.specs.Needed.{IsNeededBy}
use Rattle.ad_search.proofs.NeedLaws.{OneSoFar}
use Rattle.ad_search.proofs.index_plan.+plan.Given as goal

-- A filter in another is less deep. Between the two lies the call for the list in which it stands.
abbrev pub decreases-plan_of : goal.decreases-plan_of
decreases-plan_of l = 2 * depth (filter_seen l.filter.now)

abbrev pub decreases-plan_of_all : goal.decreases-plan_of_all
decreases-plan_of_all l = 2 * depth_of_all (filters_of (map filter_seen l.filters.now)) + 1

abbrev pub decreases-plan_of_any : goal.decreases-plan_of_any
decreases-plan_of_any l = 2 * depth_of_all (filters_of (map filter_seen l.filters.now)) + 1

abbrev pub invariant-plan_of_all-each : goal.invariant-plan_of_all-each
invariant-plan_of_all-each l =
    AllByRecursion (IsNeededBy l.dir (filter.And (filters_of (map filter_seen l.filters)))) l.plans.items

abbrev pub invariant-plan_of_any-each : goal.invariant-plan_of_any-each
invariant-plan_of_any-each l = OneSoFar l.dir l.filters l.i l.plans.items
