use Rattle.std.proofs.Common.{◌∙◌, ap, subst}
use Rattle.ad_dir_model.specs.Directory.{Directory}
use Rattle.cmd_audit.specs.State.{State}
use Rattle.cmd_audit.specs.Steps.{IsAuditedSince}
use Rattle.cmd_audit.proofs.auditing.audit_opened.Goals as goal

pub audit_frames-requires : goal.audit_frames-requires
audit_frames-requires g c = ap (λ (s : State). s.tokens) c.new-replay.ensures ∙ c.requires.tokens

pub returns : goal.returns
returns g c =
    subst (λ (d : Directory). IsAuditedSince g.I.Source g.S.Site d c.args.source.now c.audit_frames.new.source
    c.args.site.now c.audit_frames.new.site c.audit_frames.result)
    (ap (λ (s : State). s.directory) c.new-replay.ensures) c.audit_frames.ensures
