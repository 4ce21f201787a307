use Rattle.std.proofs.Common.{Err, subst, ap}
use Rattle.ad_dir_model.specs.Directory.{Directory}
use Rattle.ad_diff.specs.Answers.{DiffTold}
use Rattle.ad_diff.proofs.Refusals.{diff_either}
use Rattle.cmd_call.proofs.Moments.{IsLawful}
use Rattle.cmd_store_open.specs.EngineWords.{OpenFault}
use Rattle.cmd_diff.specs.Steps.{ComparesBeside}
use Rattle.cmd_diff.proofs.CompareSteps.{by_first, by_second}
use Rattle.cmd_diff.proofs.comparing.diff.Goals as goal

pub returns-in-Ok : goal.returns-in-Ok
returns-in-Ok g c =
    let beside = subst (λ (dir : Directory). ComparesBeside g.S.Site g.T.Site DiffTold dir c.resume.new.site
    c.compare.new.site c.args.other.now c.compare.new.other c.compare.result) c.dir.ensures c.compare.ensures in
    let all = by_second g.S.Site g.T.Site DiffTold diff_either c.args.site.now c.resume.new.site c.compare.new.site
    c.args.other.now c.compare.new.other c.in-Ok.engine.dir c.compare.result c.in-Ok.ensures.outside
    c.in-Ok.ensures.opened beside in
    record { does = all.0; site_failed = all.1 }

pub returns-in-Err : goal.returns-in-Err
returns-in-Err g c =
    let law : IsLawful g.T.Site = record { output = g.met.T.Site.left_output; until = g.met.T.Site.left_until } in
    let all = by_first g.S.Site g.T.Site DiffTold diff_either c.args.site.now c.resume.new.site c.refuse_as.new.site
    c.args.other.now c.in-Err.fault c.refuse_as.result law c.in-Err.ensures.outside c.in-Err.ensures.opened
    (λ is. c.in-Err.ensures.cause (ap (λ (f : OpenFault). Err f) is)) c.refuse_as.ensures in
    record { does = all.0; site_failed = all.1 }
