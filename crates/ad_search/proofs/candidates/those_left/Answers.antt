use Rattle.std.proofs.Common.{◌≡◌, ℕ, ◌+◌, true, List, ◌++◌, drop, get_or, sym, subst}
use Rattle.std.specs.List.{AllByRecursion}
use Rattle.std.proofs.lemmas.List.{drop_more}
use Rattle.ad_ldap.specs.MessageValue.{search_seen}
use Rattle.ad_dir_model.specs.Objects.{is_live}
use Rattle.ad_search.specs.Needles.{HaveSameEntries}
use Rattle.ad_search.proofs.NeedleLaws.{left_more, live_more, at_get}
use Rattle.ad_search.proofs.IndexLaws.{never_by}
use Rattle.ad_search.proofs.candidates.those_left.Goals as goal

pub each-preserved : goal.each-preserved
each-preserved c =
    let dir = c.args.dir.now in
    let search = search_seen c.args.search.now in
    let all = c.args.numbers.now in
    let i = c.each.number-index in
    let number = get_or all i 0 in
    let may = c.may_meet-may.result in (
      subst (λ (left : List ℕ). HaveSameEntries dir search (left ++ drop (i + 1) all) all)
          (sym c.in_ok-push_number.ensures)
          (left_more dir search c.each.left.items all i number may (drop_more all i 0 c.each-test.true)
          (λ out. never_by dir search.filter c.args.plan.now number c.requires.needed (c.may_meet-may.ensures out))
          c.each.invariant.0),
      subst (AllByRecursion (λ (n : ℕ). is_live dir.objects n ≡ true)) (sym c.in_ok-push_number.ensures)
          (live_more (λ (n : ℕ). is_live dir.objects n ≡ true) c.each.left.items number may
          (at_get (λ (n : ℕ). is_live dir.objects n ≡ true) all i 0 c.requires.live c.each-test.true)
          c.each.invariant.1),
    )
