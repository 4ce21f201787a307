use Rattle.ad_change.specs.Removing.{from_depth}
use Rattle.ad_change.proofs.LeafOrder.{level_more, level_end}
use Rattle.ad_change.proofs.leaves.deepest_first.Goals as goal

pub each-preserved : goal.each-preserved
each-preserved c = level_more c.each.left c.args.found.now c.each.going.items c.push_at.new.going.items
    (from_depth 65 c.args.found.now)
    c.each-test.true c.in_ok-push_at.ensures c.each.invariant

pub returns : goal.returns
returns c = level_end c.each.left c.args.found.now c.each.going.items (from_depth 65 c.args.found.now)
    c.each-test.false c.each.invariant
