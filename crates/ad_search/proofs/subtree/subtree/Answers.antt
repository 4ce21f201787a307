use Rattle.ad_search.proofs.SubtreeLaws.{gathered}
use Rattle.ad_search.proofs.subtree.subtree.Goals as goal

pub returns : goal.returns
returns c =
    gathered c.args.dir.now c.args.base c.in_ok-numbers.numbers.items c.rise.new.numbers.items c.invariants.ensures.rise
    c.invariants.ensures.parents c.requires
    c.in_ok-numbers.ensures c.rise.ensures.rises c.rise.ensures.same
