use Rattle.std.proofs.Common.{Result, ℕ, sym, ap, ◌∙◌}
use Rattle.ad_ldap.specs.declared.controls.Settings.{Settings}
use Rattle.ad_ldap.specs.MessageValue.{message_seen}
use Rattle.ad_ldap.specs.Settings.{settings_of}
use Rattle.ad_engine_answer.specs.Messages.{changed}
use Rattle.ad_engine_answer.proofs.Decisions.{decided_as, decided_here}
use Rattle.ad_engine_answer.proofs.changing.change.Goals as goal

pub returns-in-Ok : goal.returns-in-Ok
returns-in-Ok c =
    let dir = c.args.dir.now in
    let m = message_seen c.args.message.now in
    decided_as c.decision_of.result dir _ (changed dir c.args.token.now m c.args.tag (settings_of m))
    (ap (λ (r : Result Settings ℕ). changed dir c.args.token.now m c.args.tag r)
    (sym c.in-Ok.is ∙ c.settings.ensures)) c.decision_of.ensures

pub returns-in-Err : goal.returns-in-Err
returns-in-Err c =
    let dir = c.args.dir.now in
    let m = message_seen c.args.message.now in
    decided_here c.refused.result dir _ (changed dir c.args.token.now m c.args.tag (settings_of m))
    (ap (λ (r : Result Settings ℕ). changed dir c.args.token.now m c.args.tag r)
    (sym c.in-Err.is ∙ c.settings.ensures)) c.refused.ensures
