use Rattle.std.proofs.Common.{map, arith}
use Rattle.ad_ldap.specs.FilterValue.{filter_seen, filters_of}
use Rattle.ad_filter.specs.Filtering.{view_by, all_of, some_of}
use Rattle.ad_filter.proofs.Walks.{all_more, all_false, all_end, some_more, some_true, some_end}
use Rattle.ad_filter.proofs.judging.+filter.Goals as goal

pub all_of-returns-in-False-clause-says : goal.all_of-returns-in-False-clause-says
all_of-returns-in-False-clause-says g t c =
    all_false (view_by (g.V.Readable.named c.args.view.now) (g.V.Readable.shown c.args.view.now)) c.args.filters.now
    c.each.i c.filter_at.result.now c.each.so_far
    (all_of (view_by (g.V.Readable.named c.args.view.now) (g.V.Readable.shown c.args.view.now))
    (filters_of (map filter_seen c.args.filters.now)))
    c.each-test.true c.filter_at.ensures.at (rw c.in-False.is at c.in_ok-next.ensures.says) c.each.invariant.0

pub all_of-each-preserved : goal.all_of-each-preserved
all_of-each-preserved g t c = (
  rw c.and-so_far.ensures
      (all_more (view_by (g.V.Readable.named c.args.view.now) (g.V.Readable.shown c.args.view.now)) c.args.filters.now
      c.each.i c.filter_at.result.now c.each.so_far c.in_ok-next.next
      (all_of (view_by (g.V.Readable.named c.args.view.now) (g.V.Readable.shown c.args.view.now))
      (filters_of (map filter_seen c.args.filters.now)))
      c.each-test.true c.filter_at.ensures.at c.in_ok-next.ensures.says c.each.invariant.0),
  c.in_ok-next.ensures.kept,
)

pub all_of-returns-clause-says : goal.all_of-returns-clause-says
all_of-returns-clause-says g t c =
    all_end (view_by (g.V.Readable.named c.args.view.now) (g.V.Readable.shown c.args.view.now)) c.args.filters.now
    c.each.i c.each.so_far (all_of (view_by (g.V.Readable.named c.args.view.now)
    (g.V.Readable.shown c.args.view.now)) (filters_of (map filter_seen c.args.filters.now)))
    (omega (arith, c.each-test.false)) c.each.invariant.0

pub some_of-returns-in-True-clause-says : goal.some_of-returns-in-True-clause-says
some_of-returns-in-True-clause-says g t c =
    some_true (view_by (g.V.Readable.named c.args.view.now) (g.V.Readable.shown c.args.view.now)) c.args.filters.now
    c.each.i c.filter_at.result.now c.each.so_far
    (some_of (view_by (g.V.Readable.named c.args.view.now) (g.V.Readable.shown c.args.view.now))
    (filters_of (map filter_seen c.args.filters.now)))
    c.each-test.true c.filter_at.ensures.at (rw c.in-True.is at c.in_ok-next.ensures.says) c.each.invariant.0

pub some_of-each-preserved : goal.some_of-each-preserved
some_of-each-preserved g t c = (
  rw c.or-so_far.ensures
      (some_more (view_by (g.V.Readable.named c.args.view.now) (g.V.Readable.shown c.args.view.now))
      c.args.filters.now c.each.i c.filter_at.result.now c.each.so_far c.in_ok-next.next
      (some_of (view_by (g.V.Readable.named c.args.view.now) (g.V.Readable.shown c.args.view.now))
      (filters_of (map filter_seen c.args.filters.now)))
      c.each-test.true c.filter_at.ensures.at c.in_ok-next.ensures.says c.each.invariant.0),
  c.in_ok-next.ensures.kept,
)

pub some_of-returns-clause-says : goal.some_of-returns-clause-says
some_of-returns-clause-says g t c =
    some_end (view_by (g.V.Readable.named c.args.view.now) (g.V.Readable.shown c.args.view.now)) c.args.filters.now
    c.each.i c.each.so_far (some_of (view_by (g.V.Readable.named c.args.view.now)
    (g.V.Readable.shown c.args.view.now)) (filters_of (map filter_seen c.args.filters.now)))
    (omega (arith, c.each-test.false)) c.each.invariant.0
