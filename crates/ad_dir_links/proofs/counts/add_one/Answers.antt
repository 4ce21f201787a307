use Rattle.std.proofs.Common.{arith, ◌∙◌}
use Rattle.ad_dir_links.proofs.Counting.{recount_added}
use Rattle.ad_dir_links.proofs.counts.add_one.Goals as goal

pub returns-clause-ok : goal.returns-clause-ok
returns-clause-ok c =
    recount_added c.args.holder c.args.target c.pair_key-key.result c.args.links.now.entries
    c.put_count.new.links.entries c.in_ok-was.was' c.with_one-count.result
    (omega (arith, c.ranges.holder)) c.pair_key-key.ensures c.in_ok-was.ensures.was c.with_one-count.ensures
    c.put_count.ensures.here
    (λ other apart. c.put_count.ensures.others other apart ∙ c.in_ok-was.ensures.others other apart)
