use Rattle.std.proofs.Common.{◌≡◌, ◌-◌, ◌+◌, suc, Err, refl, ap, arith}
use Rattle.ad_frames.specs.declared.fault.FrameFault.{FrameFault}
use Rattle.cmd_audit.proofs.Loop.{auditing_none, audited_one, ended_none, ended_fault, ended_amid, ended_last}
use Rattle.cmd_audit.proofs.Fold.{reached_none}
use Rattle.cmd_audit.proofs.auditing.audit_frames.Goals as goal

pub loop-done-init : goal.loop-done-init
loop-done-init g c = record {
  since = λ old looks store. auditing_none g.I.Source g.S.Site c.args.replay.now.directory c.args.replay.now
      c.args.source.now old c.args.site.now 1000000 refl
      (reached_none c.args.replay.now.directory c.args.replay.now.tokens c.requires) looks store;
}

pub loop-done-preserved : goal.loop-done-preserved
loop-done-preserved g c =
    let l = c.loop-done in
    let read = rw c.in-Ok-Some.field-0-is at c.in-Ok-Some.ensures in
    let next : 1000000 - l.done ≡ suc (1000000 - (l.done + 1)) = omega arith in
    let at : (l.done + 1) + (1000000 - l.done) ≡ 1000001 = omega arith in
    record {
      since = λ old looks store.
          audited_one g.I.Source g.S.Site c.args.replay.now.directory l.replay c.audit_frame.new.replay
          c.args.source.now l.source c.next_frame.new.source old l.site c.audit_frame.new.site
          (l.done + 1) c.in-Ok-Some.frame _ (1000000 - (l.done + 1)) next at (l.invariant.since old looks store)
          read.next c.next_frame.ensures.never_falls c.in-Ok.ensures;
    }

pub returns-in-Err-audit_frame : goal.returns-in-Err-audit_frame
returns-in-Err-audit_frame g c =
    let l = c.loop-done in
    let read = rw c.in-Ok-Some.field-0-is at c.in-Ok-Some.ensures in
    let next : 1000000 - l.done ≡ suc (1000000 - (l.done + 1)) = omega arith in
    let at : (l.done + 1) + (1000000 - l.done) ≡ 1000001 = omega arith in
    λ old looks store.
    ended_amid g.I.Source g.S.Site c.args.replay.now.directory l.replay c.audit_frame.new.replay c.args.source.now
    l.source c.next_frame.new.source old l.site c.audit_frame.new.site
    (l.done + 1) c.in-Ok-Some.frame _ (1000000 - (l.done + 1)) (Err c.in-Err-audit_frame.outcome)
    c.in-Err-audit_frame.outcome next at (l.invariant.since old looks store) read.next
    c.in-Err-audit_frame.ensures c.in-Err-audit_frame.ensures.failed

pub returns-in-Ok-None : goal.returns-in-Ok-None
returns-in-Ok-None g c =
    let l = c.loop-done in
    let read = rw c.in-Ok-None.field-0-is at c.in-Ok-None.ensures in
    λ old looks store.
    ended_none g.I.Source g.S.Site c.args.replay.now.directory l.replay c.args.source.now l.source
    c.next_frame.new.source old l.site _ (l.invariant.since old looks store) read.next

pub returns-in-Err : goal.returns-in-Err
returns-in-Err g c =
    let l = c.loop-done in
    let next : 1000000 - l.done ≡ suc (1000000 - (l.done + 1)) = omega arith in
    λ old looks store.
    rw c.of_frame.ensures
    (ended_fault g.I.Source g.S.Site c.args.replay.now.directory l.replay c.args.source.now l.source
    c.next_frame.new.source old l.site _ (1000000 - (l.done + 1)) c.in-Err.fault next
    (l.invariant.since old looks store) c.in-Err.ensures.next
    (λ is. c.in-Err.ensures.cause (ap (λ (f : FrameFault). Err f) is)))

pub returns : goal.returns
returns g c =
    let l = c.loop-done in
    let none : 1000000 - l.done ≡ 0 = omega arith in
    λ old looks store.
    ended_last g.I.Source g.S.Site c.args.replay.now.directory l.replay c.args.source.now l.source
    c.at_last.new.source old l.site _ c.at_last.result none
    (l.invariant.since old looks store) c.at_last.ensures
