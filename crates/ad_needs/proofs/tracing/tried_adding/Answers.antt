use Rattle.ad_needs.proofs.ReachLaws.{add_reaches}
use Rattle.ad_needs.proofs.TracedLaws.{adding_tried}
use Rattle.ad_needs.proofs.tracing.tried_adding.Goals as goal

pub parent_of_new-requires-clause-name : goal.parent_of_new-requires-clause-name
parent_of_new-requires-clause-name c = (add_reaches c.args.dir.now c.args.token.now c.args.add.now c.args.settings.now
    c.requires).parts

pub parent_of_new-requires-clause-seen : goal.parent_of_new-requires-clause-seen
parent_of_new-requires-clause-seen c = (add_reaches c.args.dir.now c.args.token.now c.args.add.now c.args.settings.now
    c.requires).parent

pub class_of_new-requires : goal.class_of_new-requires
class_of_new-requires c = (add_reaches c.args.dir.now c.args.token.now c.args.add.now c.args.settings.now
    c.requires).class_is

pub returns : goal.returns
returns c =
    adding_tried c.args.dir.now c.args.token.now c.args.add.now c.args.settings.now c.in_ok-parent.parent
    c.in_ok-class.class.0 c.in_ok-sd.sd c.new_trace-trace.result c.unless_creates.new.trace
    c.in_ok-unless_creates.field-0
    c.in_ok-parent.ensures.number c.in_ok-class.ensures.class c.in_ok-sd.ensures c.new_trace-trace.ensures
    c.in_ok-unless_creates.ensures.steps
