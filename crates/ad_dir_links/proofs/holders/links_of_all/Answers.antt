use Rattle.ad_dir_links.proofs.Gathering.{counted_next, counted_all}
use Rattle.ad_dir_links.proofs.holders.links_of_all.Goals as goal

pub each-preserved : goal.each-preserved
each-preserved c =
    counted_next c.args.indexed.now c.each.links.entries c.add_holder.new.links.entries c.args.objects.now
    c.each.one-index c.one-item.result c.each-test.true c.one-item.is c.in_ok-add_holder.ensures c.each.invariant

pub returns : goal.returns
returns c = counted_all c.args.indexed.now c.each.links.entries c.args.objects.now c.each.one-index c.each-test.false
    c.each.invariant
