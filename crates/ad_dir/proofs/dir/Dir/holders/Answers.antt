use Rattle.std.proofs.Common.{subst}
use Rattle.ad_dir.specs.Holders.{IsNextHolder}
use Rattle.ad_dir.proofs.HolderLists.{none_yet, one_more, all_holders}
use Rattle.ad_dir.proofs.dir.Dir.holders.Goals as goal

pub each-init : goal.each-init
each-init c = none_yet c.args.self.now.objects c.args.target c.new-found.result.items c.invariants.ensures.rise
    c.new-found.ensures.items

pub each-preserved : goal.each-preserved
each-preserved c =
    one_more c.args.self.now.objects c.args.target c.each.above c.in-Some.next c.each.found.items
    c.push_holder.new.found.items c.in-Some.ensures c.in_ok-push_holder.ensures c.each.invariant

pub returns : goal.returns
returns c =
    all_holders c.args.self.now.objects c.args.target c.each.above c.each.found.items c.invariants.ensures.rise
    (subst (IsNextHolder c.args.self.now.objects c.args.target c.each.above) c.in_default.is c.next_holder.ensures)
    c.each.invariant
