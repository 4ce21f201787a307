use Rattle.std.proofs.Common.{sym, ap}
use Rattle.std.proofs.lemmas.Result.{IfOk-weaker}
use Rattle.ad_ldap.specs.MessageValue.{op_seen}
use Rattle.ad_change.specs.Effects.{Effect, made, effect}
use Rattle.ad_engine_answer.specs.declared.decided.Decided.{Decided}
use Rattle.ad_engine_answer.specs.Decided.{AreEditsTo}
use Rattle.ad_engine_answer.specs.Messages.{by_effect}
use Rattle.ad_engine_answer.proofs.Decisions.{decided_as, decided_here}
use Rattle.ad_engine_answer.proofs.Effects.{refused_later, made_so}
use Rattle.ad_engine_answer.proofs.changing.planned.Goals as goal

pub returns-in-Refused : goal.returns-in-Refused
returns-in-Refused c =
    let dir = c.args.dir.now in
    let message = c.args.message.now in
    let is = refused_later dir c.args.token.now (op_seen message.op) c.args.settings.now c.args.act.now
    c.in-Refused.code c.requires.granted
    (rw c.in-Refused.is at c.in_ok-code.ensures) in
    decided_here c.refused.result dir _ (by_effect message.id c.args.tag
    (effect dir c.args.token.now (op_seen message.op) c.args.settings.now))
    (sym (ap (λ (e : Effect). by_effect message.id c.args.tag e) is)) c.refused.ensures

pub returns-in-Edits : goal.returns-in-Edits
returns-in-Edits c =
    let dir = c.args.dir.now in
    let message = c.args.message.now in
    let after = made dir c.args.token.now c.args.act.now in
    let plan = rw c.in-Edits.is at c.in_ok-code.ensures in
    let is = made_so dir c.args.token.now (op_seen message.op) c.args.settings.now c.args.act.now c.requires.granted
    plan.holds in
    let are : AreEditsTo dir c.in-Edits.edits after = record {
      may = plan.may;
      make = plan.make;
      sound = c.stays_sound.ensures c.args.token.now c.args.settings.now after c.requires.change is;
      nothing = plan.nothing;
    } in
    decided_as c.success_of.result dir _ (by_effect message.id c.args.tag
    (effect dir c.args.token.now (op_seen message.op) c.args.settings.now))
    (sym (ap (λ (e : Effect). by_effect message.id c.args.tag e) is))
    (IfOk-weaker c.success_of.result _ _ (λ (d : Decided) all. all dir after are) c.success_of.ensures)
