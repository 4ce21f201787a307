use Rattle.std.proofs.Common.{sym, ap, ◌∙◌}
use Rattle.ad_ldap.specs.MessageValue.{op_seen}
use Rattle.ad_change.specs.Effects.{Effect, effect}
use Rattle.ad_engine_answer.specs.Messages.{by_effect}
use Rattle.ad_engine_answer.proofs.Decisions.{decided_as, decided_here}
use Rattle.ad_engine_answer.proofs.Effects.{refused_first, hidden_first, missing_first}
use Rattle.ad_engine_answer.proofs.changing.decision_of.Goals as goal

pub planned-requires-clause-granted : goal.planned-requires-clause-granted
planned-requires-clause-granted c = sym c.in_ok-act.ensures ∙ c.in-Granted.is

pub returns-in-Refused : goal.returns-in-Refused
returns-in-Refused c =
    let dir = c.args.dir.now in
    let message = c.args.message.now in
    let is = refused_first dir c.args.token.now (op_seen message.op) c.args.settings.now c.in-Refused.code
    (sym c.in_ok-act.ensures ∙ c.in-Refused.is) in
    decided_here c.refused.result dir _ (by_effect message.id c.args.tag
    (effect dir c.args.token.now (op_seen message.op) c.args.settings.now))
    (sym (ap (λ (e : Effect). by_effect message.id c.args.tag e) is)) c.refused.ensures

pub returns-in-Hidden : goal.returns-in-Hidden
returns-in-Hidden c =
    let dir = c.args.dir.now in
    let message = c.args.message.now in
    let is = hidden_first dir c.args.token.now (op_seen message.op) c.args.settings.now c.in-Hidden.dn
    (sym c.in_ok-act.ensures ∙ c.in-Hidden.is) in
    decided_here c.hidden.result dir _ (by_effect message.id c.args.tag
    (effect dir c.args.token.now (op_seen message.op) c.args.settings.now))
    (sym (ap (λ (e : Effect). by_effect message.id c.args.tag e) is)) c.hidden.ensures

pub missing-requires : goal.missing-requires
missing-requires c =
    c.a_missing_need_names_live_objects.ensures c.args.dir.now c.args.token.now (op_seen c.args.message.now.op)
    c.args.settings.now c.in-Missing.need c.invariants.ensures
    (sym c.in_ok-act.ensures ∙ c.in-Missing.is)

pub returns-in-Missing : goal.returns-in-Missing
returns-in-Missing c =
    let dir = c.args.dir.now in
    let message = c.args.message.now in
    let is = missing_first dir c.args.token.now (op_seen message.op) c.args.settings.now c.in-Missing.need
    (sym c.in_ok-act.ensures ∙ c.in-Missing.is) in
    decided_as c.missing.result dir _ (by_effect message.id c.args.tag
    (effect dir c.args.token.now (op_seen message.op) c.args.settings.now))
    (sym (ap (λ (e : Effect). by_effect message.id c.args.tag e) is)) c.missing.ensures
