use Rattle.std.proofs.Common.{◌∙◌, Bool, List, Option, ap}
use Rattle.std.specs.Prelude.{is_some}
use Rattle.ad_ids.specs.SidValue.{SidValue}
use Rattle.ad_ids.specs.declared.guid.Guid.{Guid}
use Rattle.ad_sd.specs.declared.parts.Sd.{Sd}
use Rattle.ad_sd.specs.Seen.{seen}
use Rattle.ad_types.specs.Path.{guids_of}
use Rattle.ad_dir_model.specs.Identity.{self_sid}
use Rattle.ad_dir_model.specs.Objects.{object_of}
use Rattle.ad_audit.specs.Audited.{audited}
use Rattle.cmd_audit.specs.Log.{is_audited}
use Rattle.cmd_audit.proofs.Judging.{by_some, by_none, there}
use Rattle.cmd_audit.proofs.events.is_audited.Goals as goal

pub returns-in-Some-clause-audited : goal.returns-in-Some-clause-audited
unfolding is_audited
returns-in-Some-clause-audited c =
    let dir = c.args.dir.now in
    let t = c.args.tried.now in
    let f : Sd → Bool = λ sd. is_some (audited sd c.args.token.now (self_sid dir t.object) (guids_of t.path) t.right
    t.success) in
    c.is_some.ensures
    ∙ ap is_some c.audited.ensures
    ∙ ap (λ (own : Option SidValue). is_some
    (audited (seen c.in-Some.view) c.args.token.now own c.guids.result.now t.right t.success))
    c.self_sid-own.ensures
    ∙ ap (λ (path : List Guid). is_some (audited (seen c.in-Some.view) c.args.token.now (self_sid dir t.object) path
    t.right t.success)) c.guids.ensures
    ∙ by_some f (object_of dir.objects t.object) (seen c.in-Some.view) c.in-Some.ensures

pub returns-in-Some-clause-live : goal.returns-in-Some-clause-live
returns-in-Some-clause-live c = λ _. there (object_of c.args.dir.now.objects c.args.tried.now.object)
    (seen c.in-Some.view) c.in-Some.ensures

pub returns-in-None-clause-audited : goal.returns-in-None-clause-audited
unfolding is_audited
returns-in-None-clause-audited c =
    let dir = c.args.dir.now in
    let t = c.args.tried.now in
    by_none (λ (sd : Sd). is_some (audited sd c.args.token.now (self_sid dir t.object) (guids_of t.path) t.right
    t.success)) (object_of dir.objects t.object) c.in-None.ensures
