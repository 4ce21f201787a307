use Rattle.std.proofs.Common.{Err, subst, ap}
use Rattle.ad_dir_model.specs.Directory.{Directory}
use Rattle.cmd_store_open.specs.EngineWords.{OpenFault}
use Rattle.ad_control_dir.specs.Control.{ControlTold}
use Rattle.ad_control_dir.proofs.Refusals.{control_either}
use Rattle.cmd_who.specs.Asks.{Question}
use Rattle.cmd_who.specs.Asking.{TellsIn}
use Rattle.cmd_who.proofs.AskSteps.{Excludes, asked_told, asked_by}
use Rattle.cmd_control.proofs.asking.control.Goals as goal

pub returns-in-Ok : goal.returns-in-Ok
returns-in-Ok g c =
    let asks : Question = λ dir. ControlTold dir c.args.name.now in
    let excludes : Excludes asks = λ dir answer line is none. control_either dir c.args.name.now answer line is none in
    let said = subst (λ (dir : Directory). TellsIn g.S.Site asks dir c.resume.new.site c.tell_control.new.site
    c.tell_control.result) c.dir.ensures c.tell_control.ensures in
    let all = asked_told g.S.Site asks excludes c.args.site.now c.resume.new.site c.tell_control.new.site
    c.in-Ok.engine.dir c.tell_control.result c.in-Ok.ensures.outside c.in-Ok.ensures.opened said in
    record { does = all.0; site_failed = all.1 }

pub returns-in-Err : goal.returns-in-Err
returns-in-Err g c =
    let asks : Question = λ dir. ControlTold dir c.args.name.now in
    let excludes : Excludes asks = λ dir answer line is none. control_either dir c.args.name.now answer line is none in
    let all = asked_by g.S.Site asks excludes c.args.site.now c.resume.new.site c.refuse.new.site c.in-Err.fault
    c.refuse.result c.in-Err.ensures.outside c.in-Err.ensures.opened
    (λ is. c.in-Err.ensures.cause (ap (λ (f : OpenFault). Err f) is)) c.refuse.ensures in
    record { does = all.0; site_failed = all.1 }
