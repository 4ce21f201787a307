use Rattle.std.proofs.Common.{refl}
use Rattle.std.proofs.lemmas.Result.{err_from_is_err_and}
use Rattle.ad_bytes.specs.Reading.{many_at}
use Rattle.ad_bytes.proofs.Many.{goes_on, ends, is_done}
use Rattle.ad_ids.specs.SidReading.{sid_at}
use Rattle.ad_ids.specs.TokenReading.{sids_at}
use Rattle.ad_ids.proofs.token_reading.sids.Goals as goal

pub returns-in_err-sid : goal.returns-in_err-sid
unfolding sids_at
returns-in_err-sid c =
    let p = err_from_is_err_and c.from_residual.result c.from_residual.ensures.1 in
    rw (p.1, p.2) (λ _. rw (ends sid_at c.in_err-sid.field-0.0 c.loop.sids c.args.count c.loop.counter c.loop.input
    (many_at sid_at c.args.count c.args.input.now) c.loop-test.true c.in_err-sid.ensures.read c.loop.invariant)
    refl)

pub loop-preserved : goal.loop-preserved
loop-preserved c =
    rw c.in_ok-push.ensures.ok (goes_on sid_at c.loop.sids c.args.count c.loop.counter c.loop.input c.in_ok-sid.sid
    c.read.new.input (many_at sid_at c.args.count c.args.input.now) c.loop-test.true c.in_ok-sid.ensures.read
    c.loop.invariant)

pub returns : goal.returns
unfolding sids_at
returns c = rw (
  c.indexed.ensures,
  is_done sid_at c.loop.sids c.args.count c.loop.counter c.loop.input
      (many_at sid_at c.args.count c.args.input.now) c.loop-test.false c.loop.invariant,
) refl
