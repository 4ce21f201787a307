use Rattle.ad_needs.proofs.ReachLaws.{modify_reaches}
use Rattle.ad_needs.proofs.TracedLaws.{modifying_tried}
use Rattle.ad_needs.proofs.tracing.tried_modifying.Goals as goal

pub found-requires-clause-name : goal.found-requires-clause-name
found-requires-clause-name c = rw c.as_slice.ensures
    (modify_reaches c.args.dir.now c.args.token.now c.args.modify.now c.args.settings.now c.requires).name

pub found-requires-clause-seen : goal.found-requires-clause-seen
found-requires-clause-seen c = rw c.as_slice.ensures
    (modify_reaches c.args.dir.now c.args.token.now c.args.modify.now c.args.settings.now c.requires).seen

pub needs_refusal-requires-clause-decoded : goal.needs_refusal-requires-clause-decoded
needs_refusal-requires-clause-decoded c =
    let is = c.in_ok-decoded.ensures in
    rw (is.items, is.flags) (rw c.schema.ensures at is.decoded)

pub returns : goal.returns
returns c =
    let is = c.in_ok-decoded.ensures in
    modifying_tried c.args.dir.now c.args.token.now c.args.modify.now c.args.settings.now c.in_ok-number.number
    c.new_trace-trace.result c.needs_refusal.new.trace c.in_ok-needs_refusal.field-0
    (rw c.as_slice.ensures at c.in_ok-number.ensures.number) c.new_trace-trace.ensures
    (rw (is.items, is.flags, c.as_slice-items.ensures) at c.in_ok-needs_refusal.ensures.steps)
