use Rattle.std.proofs.Common.{sym, ap}
use Rattle.ad_ldap.specs.MessageValue.{message_seen}
use Rattle.ad_ldap.specs.Reading.{is_memory}
use Rattle.ad_engine_answer.specs.Messages.{reading_decided, message_decided}
use Rattle.ad_engine_answer.proofs.Decisions.{decided_as, decided_here}
use Rattle.ad_engine_answer.proofs.messages.message_answer.Goals as goal

pub operation-requires-clause-ranges : goal.operation-requires-clause-ranges
operation-requires-clause-ranges c = (c.what_a_message_has.ensures (message_seen c.in-Ok.message) c.args.bytes.now
    c.in-Ok.ensures.found).2

pub returns-in-Ok : goal.returns-in-Ok
unfolding message_decided
returns-in-Ok c =
    decided_as c.operation.result c.args.dir.now _ (message_decided c.args.dir.now c.args.token.now c.args.bytes.now)
    (ap (reading_decided c.args.dir.now c.args.token.now) (sym c.in-Ok.ensures.fault)) c.operation.ensures

pub returns-in-Err-Ber : goal.returns-in-Err-Ber
unfolding message_decided
returns-in-Err-Ber c =
    decided_here c.notice.result c.args.dir.now _ (message_decided c.args.dir.now c.args.token.now c.args.bytes.now)
    (ap (reading_decided c.args.dir.now c.args.token.now)
    (sym (c.in-Err-Ber.ensures.fault (ap is_memory c.in-Err-Ber.field-0-is)))) c.notice.ensures

pub returns-in-Err-Form : goal.returns-in-Err-Form
unfolding message_decided
returns-in-Err-Form c =
    decided_here c.notice-in-Err-Form.result c.args.dir.now _
    (message_decided c.args.dir.now c.args.token.now c.args.bytes.now)
    (ap (reading_decided c.args.dir.now c.args.token.now)
    (sym (c.in-Err-Form.ensures.fault (ap is_memory c.in-Err-Form.field-0-is)))) c.notice-in-Err-Form.ensures

pub returns-in-Err-Deep : goal.returns-in-Err-Deep
unfolding message_decided
returns-in-Err-Deep c =
    decided_here c.notice-in-Err-Deep.result c.args.dir.now _
    (message_decided c.args.dir.now c.args.token.now c.args.bytes.now)
    (ap (reading_decided c.args.dir.now c.args.token.now)
    (sym (c.in-Err-Deep.ensures.fault (ap is_memory c.in-Err-Deep.field-0-is)))) c.notice-in-Err-Deep.ensures
