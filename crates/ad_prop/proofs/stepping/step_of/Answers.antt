use Rattle.std.proofs.Common.{sym}
use Rattle.ad_prop.proofs.StepLaws.{turn, ahead, some_pending, child_step, head_step}
use Rattle.ad_prop.proofs.stepping.step_of.Goals as goal

pub child_edits-requires : goal.child_edits-requires
child_edits-requires c = record {
  child = turn c.args.dir.now c.args.queue.now c.args.head c.in-Some.child c.requires.sound c.requires.head
      (sym c.in-Some.ensures);
  some = some_pending c.args.queue.now c.args.head c.requires.head;
  ahead = ahead c.args.dir.now c.args.queue.now c.args.head c.in-Some.child c.requires.sound c.requires.head
      (sym c.in-Some.ensures);
}

pub drop_head-requires : goal.drop_head-requires
drop_head-requires c = some_pending c.args.queue.now c.args.head c.requires.head

pub returns-in_ok-child_edits-in-Some : goal.returns-in_ok-child_edits-in-Some
returns-in_ok-child_edits-in-Some c =
    child_step c.args.dir.now c.args.queue.now c.child_edits.new.queue c.args.head c.in-Some.child
    c.in_ok-child_edits-in-Some.field-0.items
    c.requires.sound c.requires.head (sym c.in-Some.ensures) c.in_ok-child_edits-in-Some.ensures.edits
    c.in_ok-child_edits-in-Some.ensures.queue

pub returns-in-None : goal.returns-in-None
returns-in-None c =
    head_step c.args.dir.now c.args.queue.now c.drop_head.new.self c.args.head c.new.result.items
    c.requires.head (sym c.in-None.ensures) c.new.ensures.items c.drop_head.ensures
