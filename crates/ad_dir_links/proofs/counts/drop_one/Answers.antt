use Rattle.std.proofs.Common.{arith}
use Rattle.ad_dir_links.proofs.Counting.{recount_dropped}
use Rattle.ad_dir_links.proofs.counts.drop_one.Goals as goal

pub returns : goal.returns
returns c =
    recount_dropped c.args.holder c.args.target c.pair_key-key.result c.args.links.now.entries
    c.replace_count.new.links.entries c.count_at.result c.without_one-count.result
    (omega (arith, c.ranges.holder)) c.pair_key-key.ensures c.count_at.ensures c.without_one-count.ensures.covers
    c.replace_count.ensures.here c.replace_count.ensures.others
