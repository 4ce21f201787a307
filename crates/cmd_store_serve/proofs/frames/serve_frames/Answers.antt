use Rattle.std.proofs.Common.{◌≡◌, ◌-◌, ◌+◌, suc, [], Ok, Err, refl, ap, arith}
use Rattle.ad_frames.specs.declared.fault.FrameFault.{FrameFault}
use Rattle.cmd_call.proofs.Moments.{IsLawful}
use Rattle.cmd_store_serve.proofs.serving.Running.{serving_none}
use Rattle.cmd_store_open.proofs.Fronts.{read_start}
use Rattle.cmd_store_serve.proofs.serving.Loop.{served_one, ended_none, ended_fault, ended_amid, ended_last}
use Rattle.cmd_store_serve.proofs.frames.serve_frames.Goals as goal

pub loop-init : goal.loop-init
loop-init g c =
    let law : IsLawful g.S.Site = record { output = g.met.S.Site.left_output; until = g.met.S.Site.left_until } in
    record {
      stands = c.requires.stands;
      unspent = c.requires.unspent;
      since = λ old ready. record {
        dir = c.args.engine.now.dir;
        served = [];
        serving = serving_none g.S.Site law c.args.engine.now old c.args.site.now ready c.requires.stands
            c.requires.unspent c.requires.tokens;
        read = read_start (g.I.Source.rest c.args.source.now) 1000000 refl;
        faults = omega arith;
      };
    }

pub loop-preserved : goal.loop-preserved
loop-preserved g c =
    let read = rw c.in-Ok-Some.field-0-is at c.in-Ok-Some.ensures in
    let next : 1000000 - c.loop.counter ≡ suc (1000000 - (c.loop.counter + 1)) = omega arith in
    record {
      stands = c.in-Ok.ensures.answered.stands;
      unspent = c.in-Ok.ensures.answered.unspent;
      since = λ old ready.
          served_one g.I.Source g.S.Site c.args.source.now c.loop.source c.next_frame.new.source old c.loop.site
          c.answer_frame.new.site c.loop.engine c.answer_frame.new.engine c.in-Ok-Some.frame
          _ (1000000 - (c.loop.counter + 1)) (Ok tt) next (c.loop.invariant.since old ready) read.next
          c.next_frame.ensures.never_falls
          c.in-Ok.ensures c.in-Ok.ensures.answered;
    }

pub returns-in-Err-answer_frame : goal.returns-in-Err-answer_frame
returns-in-Err-answer_frame g c =
    let read = rw c.in-Ok-Some.field-0-is at c.in-Ok-Some.ensures in
    let next : 1000000 - c.loop.counter ≡ suc (1000000 - (c.loop.counter + 1)) = omega arith in
    λ old ready.
    ended_amid g.I.Source g.S.Site c.args.source.now c.loop.source c.next_frame.new.source old c.loop.site
    c.answer_frame.new.site c.loop.engine c.answer_frame.new.engine c.in-Ok-Some.frame
    _ (1000000 - (c.loop.counter + 1)) (Err c.in-Err-answer_frame.outcome) c.in-Err-answer_frame.outcome next
    (c.loop.invariant.since old ready) read.next
    c.in-Err-answer_frame.ensures c.in-Err-answer_frame.ensures.only c.in-Err-answer_frame.ensures.cause

pub returns-in-Ok-None : goal.returns-in-Ok-None
returns-in-Ok-None g c =
    let read = rw c.in-Ok-None.field-0-is at c.in-Ok-None.ensures in
    λ old ready.
    ended_none g.I.Source g.S.Site c.args.source.now c.loop.source c.next_frame.new.source old c.loop.site
    c.loop.engine _ (c.loop.invariant.since old ready) read.next

pub returns-in-Err : goal.returns-in-Err
returns-in-Err g c =
    let next : 1000000 - c.loop.counter ≡ suc (1000000 - (c.loop.counter + 1)) = omega arith in
    λ old ready.
    rw c.of_frame.ensures
    (ended_fault g.I.Source g.S.Site c.args.source.now c.loop.source c.next_frame.new.source old c.loop.site
    c.loop.engine _ (1000000 - (c.loop.counter + 1)) c.in-Err.fault next
    (c.loop.invariant.since old ready) c.in-Err.ensures.next
    (λ is. c.in-Err.ensures.cut (ap (λ (f : FrameFault). Err f) is))
    (λ is. c.in-Err.ensures.cause (ap (λ (f : FrameFault). Err f) is)))

pub returns : goal.returns
returns g c =
    let none : 1000000 - c.loop.counter ≡ 0 = omega arith in
    λ old ready.
    ended_last g.I.Source g.S.Site c.args.source.now c.loop.source c.at_last.new.source old c.loop.site c.loop.engine
    _ c.at_last.result none (c.loop.invariant.since old ready) c.at_last.ensures
