use Rattle.std.proofs.Common.{ℕ, ◌<◌, sym, subst, ◌∙◌}
use Rattle.ad_needs.proofs.DecodingLaws.{at_place, acts_more, acts_end}
use Rattle.ad_needs.proofs.modifying.act_items.Goals as goal

pub attr_at-requires : goal.attr_at-requires
attr_at-requires c = subst (λ (n : ℕ). c.each.i < n) (sym c.requires) c.each-test.true

pub each-preserved : goal.each-preserved
each-preserved c = λ schema are.
    let d = c.args.decoded.now in
    acts_more schema d.items.now c.each.i c.index-items-i.result c.in_ok-act.act c.each.all c.push_if.new.all
    c.each-test.true c.index-items-i.is
    (c.in_ok-act.ensures schema (c.attr_at.ensures ∙ at_place schema d.items.now c.each.i c.index-items-i.result
    d.attrs.items are c.each-test.true c.index-items-i.is))
    c.in_ok-push_if.ensures (c.each.invariant schema are)

pub returns : goal.returns
returns c = λ schema are.
    let d = c.args.decoded.now in
    acts_end schema d.items.now c.each.i c.each.all c.each-test.false (c.each.invariant schema are)
