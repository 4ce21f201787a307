use Rattle.std.proofs.Common.{Err, subst, ap, map}
use Rattle.std.specs.String.{string_bytes}
use Rattle.ad_dir_model.specs.Directory.{Directory}
use Rattle.cmd_store_open.specs.EngineWords.{OpenFault}
use Rattle.ad_who.specs.Answers.{TokenTold}
use Rattle.ad_who.proofs.Refusals.{token_either}
use Rattle.cmd_who.specs.Asks.{Question}
use Rattle.cmd_who.specs.Asking.{TellsIn}
use Rattle.cmd_who.proofs.AskSteps.{Excludes, asked_told, asked_by}
use Rattle.cmd_who.proofs.asking.token.Goals as goal

pub returns-in-Ok : goal.returns-in-Ok
returns-in-Ok g c =
    let asks : Question = λ dir. TokenTold dir c.args.name.now (map string_bytes c.args.sids.now) in
    let excludes : Excludes asks = λ dir answer line is none. token_either dir c.args.name.now
    (map string_bytes c.args.sids.now) answer none.0 is none.1 none.2 in
    let said = subst (λ (dir : Directory). TellsIn g.S.Site asks dir c.resume.new.site c.tell_token.new.site
    c.tell_token.result) c.dir.ensures c.tell_token.ensures in
    let all = asked_told g.S.Site asks excludes c.args.site.now c.resume.new.site c.tell_token.new.site
    c.in-Ok.engine.dir c.tell_token.result c.in-Ok.ensures.outside c.in-Ok.ensures.opened said in
    record { does = all.0; site_failed = all.1 }

pub returns-in-Err : goal.returns-in-Err
returns-in-Err g c =
    let asks : Question = λ dir. TokenTold dir c.args.name.now (map string_bytes c.args.sids.now) in
    let excludes : Excludes asks = λ dir answer line is none. token_either dir c.args.name.now
    (map string_bytes c.args.sids.now) answer none.0 is none.1 none.2 in
    let all = asked_by g.S.Site asks excludes c.args.site.now c.resume.new.site c.refuse.new.site c.in-Err.fault
    c.refuse.result c.in-Err.ensures.outside c.in-Err.ensures.opened
    (λ is. c.in-Err.ensures.cause (ap (λ (f : OpenFault). Err f) is)) c.refuse.ensures in
    record { does = all.0; site_failed = all.1 }
