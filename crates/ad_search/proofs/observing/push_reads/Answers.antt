use Rattle.std.proofs.Common.{arith}
use Rattle.ad_types.specs.Tried.{tried_values}
use Rattle.ad_search.proofs.ReadsLaws.{reads_more, reads_end}
use Rattle.ad_search.proofs.observing.push_reads.Goals as goal

pub each-preserved : goal.each-preserved
each-preserved c =
    reads_more c.args.dir.now c.args.number c.args.places.now c.each.place-index (tried_values c.args.into.now.items)
    (tried_values c.each.into.items) (tried_values c.push_read.new.into.items)
    c.each-test.true c.each.invariant c.in_ok-push_read.ensures

pub returns : goal.returns
returns c =
    reads_end c.args.dir.now c.args.number c.args.places.now c.each.place-index (tried_values c.args.into.now.items)
    (tried_values c.each.into.items) (omega (arith, c.each-test.false)) c.each.invariant
