use Rattle.std.proofs.Common.{ℕ, Option, subst}
use Rattle.ad_ldap.specs.MessageValue.{search_seen}
use Rattle.ad_search.specs.Needed.{IsMet, IsNextOf}
use Rattle.ad_search.proofs.IndexLaws.{never_by, next_for, none_yet, one_more, left_of_all}
use Rattle.ad_search.proofs.candidates.found_by.Goals as goal

pub each-init : goal.each-init
each-init c = none_yet c.args.dir.now (search_seen c.args.search.now).filter c.new-left.result.items
    c.invariants.ensures.rise c.new-left.ensures.items

pub each-preserved : goal.each-preserved
each-preserved c =
    let dir = c.args.dir.now in
    let filter = (search_seen c.args.search.now).filter in
    let plan = c.args.plan.now in
    one_more dir filter c.each.above c.in-Some.next c.is_candidate-so.result c.each.left.items
    c.push_number.new.numbers.items
    (next_for dir filter plan c.each.above _ c.requires.needed
    (subst (IsNextOf dir (λ (n : ℕ). IsMet dir n plan) c.each.above) c.in-Some.is c.next_of.ensures))
    c.is_candidate-so.ensures.live
    (λ out live. never_by dir filter plan c.in-Some.next c.requires.needed (c.is_candidate-so.ensures.never out live))
    c.in_ok-push_number.ensures c.each.invariant

pub returns : goal.returns
returns c =
    let dir = c.args.dir.now in
    let search = search_seen c.args.search.now in
    let plan = c.args.plan.now in
    left_of_all dir search c.each.above c.each.left.items c.invariants.ensures.rise
    (next_for dir search.filter plan c.each.above _ c.requires.needed
    (subst (IsNextOf dir (λ (n : ℕ). IsMet dir n plan) c.each.above) c.in_default.is c.next_of.ensures))
    c.each.invariant
