use Rattle.std.proofs.Common.{length, arith, take}
use Rattle.std.proofs.lemmas.Slice.{between_to_end}
use Rattle.ad_dn.proofs.PartRuns.{ready, read_on, stopped}
use Rattle.ad_dn.proofs.reading.scan.Goals as goal

pub advance-requires-clause-ready : goal.advance-requires-clause-ready
advance-requires-clause-ready c = ready c.loop-place.state (take c.loop-place.place c.args.text.now)
    c.loop-place.invariant.steps

pub returns-then-passed-eq0-clause-err : goal.returns-then-passed-eq0-clause-err
returns-then-passed-eq0-clause-err c =
    let text = c.args.text.now in
    let place = c.loop-place.place in
    let rest = between_to_end text place (length text) (omega arith) in
    stopped c.loop-place.state c.advance.new.self text _ place c.in_ok-passed.passed rest c.loop-place-test.true
    c.if-passed-eq0.true c.loop-place.invariant.steps c.in_ok-passed.ensures

pub loop-place-preserved : goal.loop-place-preserved
loop-place-preserved c =
    let text = c.args.text.now in
    let place = c.loop-place.place in
    let so_far = c.loop-place.invariant in
    let rest = between_to_end text place (length text) (omega arith) in
    let on = read_on c.loop-place.state c.advance.new.self text _ place c.in_ok-passed.passed rest so_far.within
    c.if-passed-eq0.false so_far.steps c.in_ok-passed.ensures in
    record { within = on.within; steps = on.steps }
