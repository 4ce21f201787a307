use Rattle.std.proofs.Common.{sym, ◌∙◌}
use Rattle.ad_needs.proofs.ReachLaws.{delete_reaches}
use Rattle.ad_needs.proofs.TracedLaws.{deleting_tried}
use Rattle.ad_needs.proofs.tracing.tried_deleting.Goals as goal

pub found-requires-clause-name : goal.found-requires-clause-name
found-requires-clause-name c = (delete_reaches c.args.dir.now c.args.token.now c.args.text.now c.args.settings.now
    c.requires).one.name

pub found-requires-clause-seen : goal.found-requires-clause-seen
found-requires-clause-seen c = (delete_reaches c.args.dir.now c.args.token.now c.args.text.now c.args.settings.now
    c.requires).one.seen

pub unless_deletes-requires-clause-below : goal.unless_deletes-requires-clause-below
unless_deletes-requires-clause-below c =
    λ same. (delete_reaches c.args.dir.now c.args.token.now c.args.text.now c.args.settings.now c.requires).below
    (sym c.in_ok-number.ensures.number ∙ same)

pub returns : goal.returns
returns c =
    deleting_tried c.args.dir.now c.args.token.now c.args.text.now c.args.settings.now c.in_ok-number.number
    c.new_trace-trace.result c.unless_deletes.new.trace c.in_ok-unless_deletes.field-0
    c.in_ok-number.ensures.number c.new_trace-trace.ensures c.in_ok-unless_deletes.ensures.steps
