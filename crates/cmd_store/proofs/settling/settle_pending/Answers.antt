use Rattle.std.proofs.Common.{◌≡◌, false, refl, sym, ap, subst, ⊎_elim, Err}
use Rattle.ad_engine_store.specs.declared.engine_fault.EngineFault.{EngineFault}
use Rattle.cmd_call.specs.declared.outcome.Outcome.{Outcome}
use Rattle.cmd_call.proofs.Moments.{IsLawful, rises_from}
use Rattle.cmd_store.specs.Settle.{IsSettledReady}
use Rattle.cmd_store_open.proofs.Failing.{unspent_fault}
use Rattle.cmd_store.proofs.SettleSteps.{settled_told, settled_failed, settled_memory, made_some, open_on}
use Rattle.cmd_store_open.proofs.Readying.{stands_for}
use Rattle.cmd_store_open.proofs.Parts.{not_so}
use Rattle.cmd_store.proofs.settling.settle_pending.Goals as goal

pub returns-in-Ok : goal.returns-in-Ok
returns-in-Ok g c =
    let s = g.S.Site in
    let law : IsLawful s = record { output = g.met.S.Site.left_output; until = g.met.S.Site.left_until } in
    let made = c.in-Ok.ensures in
    let new = c.settle.new.self in
    let unspent : new.spent ≡ false = not_so new.spent _ made.marks.0 (λ no. absurd cc) in
    let now = made.stands unspent in
    λ old ready.
    settled_told s law c.args.engine.now.dir c.in-Ok.steps old c.settle.new.site c.tell.new.site c.tell.result
    (made_some s c.args.engine.now.dir new.dir c.in-Ok.steps old c.args.site.now c.settle.new.site ready
    (c.requires.stands c.requires.unspent).sound now.sound c.requires.some made.settled.0 made.settled.1
    (stands_for s new new.dir (s.reads c.settle.new.site) refl now.held now.sound) made.every_crash made.outside
    made.any_moment) c.tell.ensures

pub outcome_of_fault-requires : goal.outcome_of_fault-requires
outcome_of_fault-requires g c = unspent_fault c.in-Err.fault _ c.requires.unspent c.in-Err.ensures.spent

pub returns-in-Err : goal.returns-in-Err
returns-in-Err g c =
    let s = g.S.Site in
    let x = c.args.site.now in
    let y = c.settle.new.site in
    let dir = c.args.engine.now.dir in
    let made = c.in-Err.ensures in
    ⊎_elim
    (λ site. subst (λ (outcome : Outcome). IsSettledReady s dir x y outcome) (sym site.1) (λ old ready.
    settled_failed s dir ready.synced old y
    (open_on s dir old x y ready c.requires.some made.outside made.any_moment)
    (rises_from (s.slot_faults old) (s.slot_faults x) (s.slot_faults y) ready.opening.touches.never_falls
    (made.cause (ap (λ (f : EngineFault). Err f) site.0)))))
    (λ memory. subst (λ (outcome : Outcome). IsSettledReady s dir x y outcome) (sym memory.1) (λ old ready.
    settled_memory s dir ready.synced old y
    (open_on s dir old x y ready c.requires.some made.outside made.any_moment)))
    c.outcome_of_fault.ensures
