use Rattle.std.proofs.Common.{Err, subst, ap}
use Rattle.ad_dir_model.specs.Directory.{Directory}
use Rattle.cmd_store_open.specs.EngineWords.{OpenFault}
use Rattle.cmd_grants.specs.Answering.{AnswersIn}
use Rattle.cmd_grants.proofs.GrantsSteps.{answered_told, answered_by}
use Rattle.cmd_grants.proofs.giving.grants.Goals as goal

pub returns-in-Ok : goal.returns-in-Ok
returns-in-Ok g c =
    let said = subst (λ (dir : Directory). AnswersIn g.I.Source g.S.Site dir c.args.source.now c.give_in.new.source
    c.resume.new.site c.give_in.new.site c.give_in.result) c.dir.ensures c.give_in.ensures in
    let all = answered_told g.I.Source g.S.Site c.args.source.now c.give_in.new.source c.args.site.now
    c.resume.new.site c.give_in.new.site c.in-Ok.engine.dir c.give_in.result
    c.in-Ok.ensures.outside c.in-Ok.ensures.opened said in
    record { does = all.0; source_failed = all.1; site_failed = all.2 }

pub returns-in-Err : goal.returns-in-Err
returns-in-Err g c =
    let all = answered_by g.I.Source g.S.Site c.args.source.now c.args.site.now c.resume.new.site c.refuse.new.site
    c.in-Err.fault c.refuse.result c.in-Err.ensures.outside c.in-Err.ensures.opened
    (λ is. c.in-Err.ensures.cause (ap (λ (f : OpenFault). Err f) is)) c.refuse.ensures in
    record { does = all.0; source_failed = all.1; site_failed = all.2 }
