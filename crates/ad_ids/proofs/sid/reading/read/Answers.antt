use Rattle.std.proofs.Common.{Some, sym, ◌∙◌}
use Rattle.ad_bytes.proofs.Machines.{step_more}
use Rattle.ad_ids.specs.SidSteps.{step, start}
use Rattle.ad_ids.proofs.sid.reading.read.Goals as goal

pub returns-in-None-clause-err : goal.returns-in-None-clause-err
returns-in-None-clause-err c = record {
  within = c.loop-place-test.true;
  last = c.loop-place.state;
  steps = c.loop-place.invariant;
  stops = step_more step (Some start) c.args.text.now c.loop-place.place c.loop-place.state c.loop-place-test.true
      c.loop-place.invariant ∙ sym c.in-None.ensures;
}

pub loop-place-preserved : goal.loop-place-preserved
loop-place-preserved c = step_more step (Some start) c.args.text.now c.loop-place.place c.loop-place.state
    c.loop-place-test.true c.loop-place.invariant ∙ sym c.in-Some.ensures
