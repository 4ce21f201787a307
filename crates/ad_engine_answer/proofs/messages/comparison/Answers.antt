use Rattle.std.proofs.Common.{Result, ℕ, sym, ap, ◌∙◌}
use Rattle.ad_ldap.specs.declared.controls.Settings.{Settings}
use Rattle.ad_ldap.specs.MessageValue.{message_seen}
use Rattle.ad_ldap.specs.Settings.{settings_of}
use Rattle.ad_search.specs.Compare.{compare_answer}
use Rattle.ad_engine_answer.specs.Messages.{replies, compared}
use Rattle.ad_engine_answer.proofs.Decisions.{replied, decided_here}
use Rattle.ad_engine_answer.proofs.messages.comparison.Goals as goal

pub returns-in_ok-bytes-in-Ok : goal.returns-in_ok-bytes-in-Ok
returns-in_ok-bytes-in-Ok c =
    let dir = c.args.dir.now in
    let m = message_seen c.args.message.now in
    let answer = compare_answer dir c.args.token.now m.id c.args.request.now in
    replied dir c.in_ok-bytes-in-Ok.bytes.items (compared m.id answer (settings_of m)) c.replying.result
    (c.in_ok-bytes-in-Ok.ensures.answer ∙ ap (λ (r : Result Settings ℕ). compared m.id answer r)
    (sym c.in-Ok.is ∙ c.settings.ensures)) (c.replying.ensures dir)

pub returns-in-Err : goal.returns-in-Err
returns-in-Err c =
    let dir = c.args.dir.now in
    let m = message_seen c.args.message.now in
    let answer = compare_answer dir c.args.token.now m.id c.args.request.now in
    decided_here c.refused.result dir _ (replies (compared m.id answer (settings_of m)))
    (ap (λ (r : Result Settings ℕ). replies (compared m.id answer r)) (sym c.in-Err.is ∙ c.settings.ensures))
    c.refused.ensures
