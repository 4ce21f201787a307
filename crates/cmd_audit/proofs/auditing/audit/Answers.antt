use Rattle.std.proofs.Common.{Err, ap, sym, subst}
use Rattle.ad_engine_store.specs.declared.fault.OpenFault.{OpenFault}
use Rattle.cmd_audit.specs.Steps.{Ended}
use Rattle.cmd_audit.proofs.Unopened.{unopened}
use Rattle.cmd_audit.proofs.auditing.audit.Goals as goal

pub returns-in-Ok : goal.returns-in-Ok
returns-in-Ok g c =
    let all = c.audit_opened.ensures c.args.site.now c.in-Ok.ensures.outside c.in-Ok.ensures.opened in
    record { does = all.does; source_failed = all.source_failed; site_failed = all.site_failed }

pub returns-in-Err : goal.returns-in-Err
returns-in-Err g c =
    let all = subst (Ended g.I.Source g.S.Site c.args.source.now c.args.source.now c.args.site.now c.resume.new.site)
    (sym c.outcome_of_open.ensures)
    (unopened g.I.Source g.S.Site c.args.source.now c.args.site.now c.resume.new.site c.in-Err.fault
    c.in-Err.ensures.outside c.in-Err.ensures.opened
    (λ is. c.in-Err.ensures.cause (ap (λ (f : OpenFault). Err f) is))) in
    record { does = all.does; source_failed = all.source_failed; site_failed = all.site_failed }

pub audit_opened-requires-clause-stands : goal.audit_opened-requires-clause-stands
audit_opened-requires-clause-stands g c =
    λ unspent. let stands = c.in-Ok.ensures.stands unspent in
    record { sound = stands.sound; held = tt; unspent = stands.unspent; store = λ _. (tt, λ _. (tt, tt)) }
