use Rattle.std.proofs.Common.{refl}
use Rattle.std.proofs.Common.{get_or}
use Rattle.ad_dir_links.proofs.Counting.{drops_none, drops_next, drops_all}
use Rattle.ad_dir_links.proofs.counts.drop_links.Goals as goal

pub each-init : goal.each-init
each-init c = drops_none c.args.holder c.args.links.now.entries

pub each-preserved : goal.each-preserved
each-preserved c =
    drops_next c.args.holder c.args.targets.now c.each.target-index (get_or c.args.targets.now c.each.target-index 0)
    c.args.links.now.entries c.each.links.entries c.drop_one.new.links.entries
    c.each-test.true refl c.each.invariant c.drop_one.ensures

pub returns : goal.returns
returns c = drops_all c.args.holder c.args.targets.now c.each.target-index c.args.links.now.entries
    c.each.links.entries c.each-test.false c.each.invariant
