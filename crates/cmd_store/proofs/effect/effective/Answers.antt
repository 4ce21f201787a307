use Rattle.std.proofs.Common.{ℕ, List, Err, subst, ap}
use Rattle.ad_dn.specs.Value.{AreRdns}
use Rattle.ad_dir_model.specs.Directory.{Directory}
use Rattle.ad_engine_store.specs.declared.fault.OpenFault.{OpenFault}
use Rattle.cmd_store.specs.Answering.{AnswersFor}
use Rattle.cmd_store.specs.List.{number_named}
use Rattle.cmd_store.proofs.EffectiveSteps.{answered_told, answered_by}
use Rattle.cmd_store.proofs.effect.effective.Goals as goal

pub returns-in-Ok : goal.returns-in-Ok
returns-in-Ok g c =
    let here = subst (λ (text : List ℕ). AnswersFor g.I.Source g.S.Site c.dir.result.now
    (number_named c.dir.result.now text) c.args.source.now c.answer_in.new.source c.resume.new.site
    c.answer_in.new.site c.answer_in.result) c.as_bytes.ensures.value c.answer_in.ensures.said in
    let said = subst (λ (dir : Directory). AnswersFor g.I.Source g.S.Site dir (number_named dir c.args.name.now)
    c.args.source.now c.answer_in.new.source c.resume.new.site c.answer_in.new.site c.answer_in.result)
    c.dir.ensures here in
    let suffix = subst (λ (dir : Directory). AreRdns dir.meta.suffix) c.dir.ensures c.answer_in.ensures.suffix in
    let all = answered_told g.I.Source g.S.Site c.args.name.now c.args.source.now c.answer_in.new.source
    c.args.site.now c.resume.new.site c.answer_in.new.site c.in-Ok.engine.dir c.answer_in.result
    c.in-Ok.ensures.outside c.in-Ok.ensures.opened
    suffix said in
    record { does = all.0; source_failed = all.1; site_failed = all.2 }

pub returns-in-Err : goal.returns-in-Err
returns-in-Err g c =
    let all = answered_by g.I.Source g.S.Site c.args.name.now c.args.source.now c.args.site.now c.resume.new.site
    c.refuse.new.site c.in-Err.fault c.refuse.result c.in-Err.ensures.outside c.in-Err.ensures.opened
    (λ is. c.in-Err.ensures.cause (ap (λ (f : OpenFault). Err f) is)) c.refuse.ensures in
    record { does = all.0; source_failed = all.1; site_failed = all.2 }
