use Rattle.std.proofs.Common.{◌<◌, length, map, List, subst, sym, ap, ◌∙◌, arith}
use Rattle.std.specs.List.{AllByRecursion}
use Rattle.std.proofs.lemmas.List.{length-map, get_or-map}
use Rattle.ad_ldap.specs.FilterValue.{filter_seen, filters_of}
use Rattle.ad_ldap.specs.FilterValue as filter
use Rattle.ad_search.specs.declared.index_plan.IndexPlan.{IndexPlan}
use Rattle.ad_search.specs.Needed.{IsNeededBy}
use Rattle.ad_search.proofs.NeedleLaws.{if_some}
use Rattle.ad_search.proofs.NeedLaws.{one_of_all, needs_more, none_so_far, one_more_of, any_needed, OneSoFar}
use Rattle.ad_search.proofs.index_plan.+plan.Goals as goal

pub plan_of_all-each-preserved : goal.plan_of_all-each-preserved
plan_of_all-each-preserved t c =
    let dir = c.args.dir.now in
    let all = map filter_seen c.args.filters.now in
    let whole = filter.And (filters_of all) in
    let one = filter_seen c.filter_at.result.now in
    let lt : c.each.i < length all = omega (arith, c.each-test.true, length-map c.args.filters.now filter_seen) in
    subst (AllByRecursion (IsNeededBy dir whole)) (sym c.in_ok-push_if.ensures)
    (needs_more (IsNeededBy dir whole) c.each.plans.items c.in_ok-plan.plan c.each.invariant
    (if_some c.in_ok-plan.plan (IsNeededBy dir one) (IsNeededBy dir whole)
    (λ (plan : IndexPlan) is. one_of_all dir all c.each.i one plan lt
    (ap filter_seen c.filter_at.ensures.at ∙ sym
    (get_or-map filter_seen c.args.filters.now c.each.i c.filter_at.result.now one c.each-test.true)) is)
    c.in_ok-plan.ensures))

pub plan_of_all-returns : goal.plan_of_all-returns
plan_of_all-returns t c = c.all_of.ensures c.args.dir.now
    (filter.And (filters_of (map filter_seen c.args.filters.now))) c.each.invariant

pub plan_of_any-each-init : goal.plan_of_any-each-init
plan_of_any-each-init t c = none_so_far c.args.dir.now c.args.filters.now _

pub plan_of_any-each-preserved : goal.plan_of_any-each-preserved
plan_of_any-each-preserved t c =
    subst (OneSoFar c.args.dir.now c.args.filters.now _) (sym c.in_ok-push.ensures.items)
    (one_more_of c.args.dir.now c.args.filters.now c.each.i c.filter_at.result.now c.each.plans.items c.in-Some.plan
    c.each-test.true c.filter_at.ensures.at (rw c.in-Some.is at c.in_ok-plan.ensures) c.each.invariant)

pub plan_of_any-returns : goal.plan_of_any-returns
plan_of_any-returns t c = any_needed c.args.dir.now c.args.filters.now c.each.i c.each.plans
    (omega (arith, c.each-test.false)) c.each.invariant
