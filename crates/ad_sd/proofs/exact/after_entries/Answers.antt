use Rattle.std.proofs.Common.{◌++◌, ◌∷◌, []}
use Rattle.ad_bytes.specs.Reading.{many_at}
use Rattle.ad_bytes.proofs.Many.{goes_on, ends, is_done}
use Rattle.ad_sd.specs.NormalReading.{not_normal, entry_exactly_at}
use Rattle.ad_sd.proofs.exact.after_entries.Goals as goal

pub returns-in-None : goal.returns-in-None
returns-in-None c = ends entry_exactly_at not_normal c.loop.invariant.0 c.args.count c.loop.counter c.loop.rest.now
    (many_at entry_exactly_at c.args.count c.args.bytes.now) c.loop-test.true c.in-None.ensures c.loop.invariant.1

pub loop-preserved : goal.loop-preserved
loop-preserved c = (
  c.loop.invariant.0 ++ c.in-Some.ensures.0 ∷ [],
  goes_on entry_exactly_at c.loop.invariant.0 c.args.count
      c.loop.counter c.loop.rest.now c.in-Some.ensures.0 c.in-Some.after.now
      (many_at entry_exactly_at c.args.count c.args.bytes.now) c.loop-test.true c.in-Some.ensures.1
      c.loop.invariant.1,
)

pub returns : goal.returns
returns c = (
  c.loop.invariant.0,
  is_done entry_exactly_at c.loop.invariant.0 c.args.count c.loop.counter
      c.loop.rest.now (many_at entry_exactly_at c.args.count c.args.bytes.now) c.loop-test.false c.loop.invariant.1,
)
