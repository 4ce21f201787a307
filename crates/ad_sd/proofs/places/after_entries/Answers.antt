use Rattle.std.proofs.Common.{◌++◌, ◌∷◌, []}
use Rattle.ad_bytes.specs.Reading.{many_at}
use Rattle.ad_bytes.proofs.Many.{goes_on, is_done}
use Rattle.ad_acl.specs.EntrySeen.{entry_seen}
use Rattle.ad_acl.specs.Reading.{entry_at}
use Rattle.ad_sd.proofs.NormalPlaces.{next_begins, given_all, all_read}
use Rattle.ad_sd.proofs.places.after_entries.Goals as goal

pub split_first-requires : goal.split_first-requires
split_first-requires c = next_begins c.loop.invariant.0 c.args.count c.loop.counter c.loop.rest.now
    (many_at entry_at c.args.count c.args.bytes.now) c.loop-test.true c.loop.invariant.1
    (given_all c.args.count c.args.bytes.now c.requires)

pub loop-preserved : goal.loop-preserved
loop-preserved c = (
  c.loop.invariant.0 ++ entry_seen c.split_first.result.0 ∷ [],
  goes_on entry_at c.loop.invariant.0 c.args.count
      c.loop.counter c.loop.rest.now (entry_seen c.split_first.result.0) c.split_first.result.1.now
      (many_at entry_at c.args.count c.args.bytes.now) c.loop-test.true c.split_first.ensures c.loop.invariant.1,
)

pub returns : goal.returns
returns c = all_read c.args.count c.args.bytes.now c.loop.invariant.0 c.loop.rest.now
    (is_done entry_at c.loop.invariant.0 c.args.count c.loop.counter c.loop.rest.now
    (many_at entry_at c.args.count c.args.bytes.now) c.loop-test.false c.loop.invariant.1)
