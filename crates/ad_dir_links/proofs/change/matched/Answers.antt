use Rattle.std.proofs.Common.{ℕ, refl, sym, ap, ◌∙◌, arith}
use Rattle.std.proofs.Common.{get_or}
use Rattle.ad_dir_links.proofs.Balance.{split_none, split_next, split_less, split_whole, next_at}
use Rattle.ad_dir_links.proofs.change.matched.Goals as goal
use Rattle.ad_dir_links.proofs.change.matched.Goals.{then-is_next, else-is_next+in_ok-push}

pub each-init : goal.each-init
each-init c = (omega arith, split_none c.args.old.now c.args.new.now c.new-less.result.items c.new-less.ensures.items)

pub each-preserved : goal.each-preserved
each-preserved c =
    let target : ℕ = get_or c.args.old.now c.each.target-index 0 in
    elim c.if-is_next.branch [
      | then-is_next w ↦
          let found = next_at c.args.new.now c.each.place target (sym w.if-is_next.ensures) in (
            let inside = found.0 in omega (arith, w.place-is, inside),
            split_next c.args.old.now c.args.new.now c.each.target-index c.each.place c.if-is_next.place target
                c.each.less.items c.if-is_next.less.items
                c.each-test.true refl found.0 found.1 w.place-is (ap (λ v. v.items) w.less-is) c.each.invariant.1,
          )
      | else-is_next+in_ok-push w ↦ (
        let before = c.each.invariant.0 in omega (arith, w.place-is, before),
        split_less c.args.old.now c.args.new.now c.each.target-index c.each.place c.if-is_next.place target
            c.each.less.items c.if-is_next.less.items
            c.each-test.true refl w.place-is (ap (λ v. v.items) w.less-is ∙ w.in_ok-push.ensures.items)
            c.each.invariant.1,
      )
    ]

pub returns-clause-balanced : goal.returns-clause-balanced
returns-clause-balanced c = split_whole c.args.old.now c.args.new.now c.each.place c.each.less.items
    c.each.target-index c.each-test.false c.each.invariant.1
