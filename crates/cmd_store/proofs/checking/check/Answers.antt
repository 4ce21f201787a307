use Rattle.std.proofs.Common.{Err, subst, ap}
use Rattle.ad_dir_model.specs.Directory.{Directory}
use Rattle.ad_engine_store.specs.declared.fault.OpenFault.{OpenFault}
use Rattle.cmd_call.specs.Store.{SaysUnless}
use Rattle.cmd_call.specs.declared.outcome.Outcome.TheVariants.{Done}
use Rattle.cmd_store.specs.Check.{check_text}
use Rattle.cmd_store.proofs.CheckSteps.{checked_told, checked_by}
use Rattle.cmd_store.proofs.checking.check.Goals as goal

pub returns-in-Ok-clause-does : goal.returns-in-Ok-clause-does
returns-in-Ok-clause-does g c =
    (checked_told g.S.Site c.args.site.now c.resume.new.site c.tell.new.site c.in-Ok.engine.dir c.tell.result
    c.in-Ok.ensures.outside c.in-Ok.ensures.opened
    (subst (λ (dir : Directory). SaysUnless g.S.Site c.resume.new.site c.tell.new.site (check_text dir) Done
    c.tell.result) c.dir.ensures c.tell.ensures)).0

pub returns-in-Ok-clause-site_failed : goal.returns-in-Ok-clause-site_failed
returns-in-Ok-clause-site_failed g c =
    (checked_told g.S.Site c.args.site.now c.resume.new.site c.tell.new.site c.in-Ok.engine.dir c.tell.result
    c.in-Ok.ensures.outside c.in-Ok.ensures.opened
    (subst (λ (dir : Directory). SaysUnless g.S.Site c.resume.new.site c.tell.new.site (check_text dir) Done
    c.tell.result) c.dir.ensures c.tell.ensures)).1

pub returns-in-Err : goal.returns-in-Err
returns-in-Err g c =
    let both = checked_by g.S.Site c.args.site.now c.resume.new.site c.refuse.new.site c.in-Err.fault c.refuse.result
    c.in-Err.ensures.outside c.in-Err.ensures.opened
    (λ is. c.in-Err.ensures.cause (ap (λ (f : OpenFault). Err f) is)) c.refuse.ensures in
    record { does = both.0; site_failed = both.1 }
