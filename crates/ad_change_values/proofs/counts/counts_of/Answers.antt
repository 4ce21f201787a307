use Rattle.std.proofs.Common.{length, arith}
use Rattle.ad_change_values.specs.ByAttr.{count_in}
use Rattle.ad_change_values.proofs.RowLaws.{no_counts, one_count}
use Rattle.ad_change_values.proofs.counts.counts_of.Goals as goal

pub each-init : goal.each-init
each-init c = record {
  within = omega arith;
  counts = λ attr. no_counts c.new-counts.result c.args.held.now attr
      c.new-counts.ensures.empty;
}

pub each-preserved : goal.each-preserved
each-preserved c = record {
  within = omega (arith, c.each.invariant.within);
  counts = λ attr.
      one_count c.args.held.now c.each.place c.index-held-place.result c.len.result (count_in c.each.counts attr)
      (count_in c.put_count.new.counts attr) attr
      c.each-test.true c.each.invariant.within c.index-held-place.is c.len.ensures (c.in_ok-put_count.ensures attr)
      (c.each.invariant.counts attr);
}
