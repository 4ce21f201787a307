use Rattle.std.proofs.Common.{ℕ, subst, arith}
use Rattle.ad_search.specs.Needed.{IsMet, IsNextOf}
use Rattle.ad_search.proofs.NeedleLaws.{at_of}
use Rattle.ad_search.proofs.NextLaws.{next_any, next_all, least_more, least_of_all, greatest_more}
use Rattle.ad_search.proofs.candidates.+next.Goals as goal

pub next_of-returns-in-AnyOf : goal.next_of-returns-in-AnyOf
next_of-returns-in-AnyOf t c =
    next_any c.args.dir.now c.args.plan.now c.in-AnyOf.plans c.as_slice.result.now c.args.above c.next_of_any.result
    c.in-AnyOf.is c.as_slice.ensures.value c.next_of_any.ensures

pub next_of-returns-in-AllOf : goal.next_of-returns-in-AllOf
next_of-returns-in-AllOf t c =
    next_all c.args.dir.now c.args.plan.now c.in-AllOf.plans c.as_slice-in-AllOf.result.now c.args.above
    c.next_of_all.result c.in-AllOf.is c.as_slice-in-AllOf.ensures.value c.next_of_all.ensures

pub next_of-returns-in-Present : goal.next_of-returns-in-Present
next_of-returns-in-Present t c = c.next_of_some.ensures c.args.plan.now

pub next_of_all-returns-in-None : goal.next_of_all-returns-in-None
next_of_all-returns-in-None t c =
    let dir = c.args.dir.now in
    let next = subst (IsNextOf dir (λ (n : ℕ). IsMet dir n c.plan-item.result) c.args.above) c.in-None.is
    c.next_of.ensures in
    record {
      is_above = tt;
      none = λ n live more before met. next.none n live more before
          (at_of (IsMet dir n) c.args.plans.now c.each.plan-index c.plan-item.result met c.each-test.true
          c.plan-item.is);
    }

pub next_of_all-each-preserved : goal.next_of_all-each-preserved
next_of_all-each-preserved t c =
    let dir = c.args.dir.now in
    greatest_more dir c.args.plans.now c.args.above c.plan-item.result c.each.next c.in-Some-next_of.one
    c.greater-next.result c.greater-next.ensures
    (subst (IsNextOf dir (λ (n : ℕ). IsMet dir n c.plan-item.result) c.args.above) c.in-Some-next_of.is
    c.next_of.ensures)
    (λ n met. at_of (IsMet dir n) c.args.plans.now c.each.plan-index c.plan-item.result met c.each-test.true
    c.plan-item.is)
    c.each.invariant

pub next_of_any-each-preserved : goal.next_of_any-each-preserved
next_of_any-each-preserved t c =
    least_more c.args.dir.now c.args.plans.now c.each.plan-index c.args.above c.plan-item.result c.each.next
    c.next_of.result c.lesser-next.result c.each-test.true c.plan-item.is c.next_of.ensures
    (c.lesser-next.ensures.above c.args.above c.each.invariant.is_above c.next_of.ensures.is_above)
    c.lesser-next.ensures.first c.lesser-next.ensures.second c.each.invariant

pub next_of_any-returns : goal.next_of_any-returns
next_of_any-returns t c =
    least_of_all c.args.dir.now c.args.plans.now c.each.plan-index c.args.above c.each.next
    (omega (arith, c.each-test.false)) c.each.invariant
