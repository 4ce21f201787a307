use Rattle.std.proofs.Common.{Err, ap}
use Rattle.ad_engine_store.specs.declared.fault.OpenFault.{OpenFault}
use Rattle.cmd_call.proofs.Moments.{IsLawful}
use Rattle.cmd_store.proofs.SettleSteps.{settled_by}
use Rattle.cmd_store.proofs.settling.settle.Goals as goal

pub returns-in-Ok : goal.returns-in-Ok
returns-in-Ok g c =
    let both = c.settle_opened.ensures c.args.site.now c.in-Ok.ensures.outside c.in-Ok.ensures.opened in
    record { does = both.0; site_failed = both.1 }

pub returns-in-Err : goal.returns-in-Err
returns-in-Err g c =
    let law : IsLawful g.S.Site = record { output = g.met.S.Site.left_output; until = g.met.S.Site.left_until } in
    let both = settled_by g.S.Site law c.args.site.now c.resume.new.site c.refuse.new.site c.in-Err.fault
    c.refuse.result c.in-Err.ensures.outside c.in-Err.ensures.opened
    (λ is. c.in-Err.ensures.cause (ap (λ (f : OpenFault). Err f) is)) c.refuse.ensures in
    record { does = both.0; site_failed = both.1 }
