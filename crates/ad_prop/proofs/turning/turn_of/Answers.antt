use Rattle.std.proofs.Common.{sym}
use Rattle.ad_prop.proofs.StepLaws.{turn, ahead, some_pending, child_takes, head_takes}
use Rattle.ad_prop.proofs.turning.turn_of.Goals as goal

pub child_turn-requires : goal.child_turn-requires
child_turn-requires c = record {
  child = turn c.args.dir.now c.args.queue.now c.args.head c.in-Some.child c.requires.sound c.requires.head
      (sym c.in-Some.ensures);
  some = some_pending c.args.queue.now c.args.head c.requires.head;
  ahead = ahead c.args.dir.now c.args.queue.now c.args.head c.in-Some.child c.requires.sound c.requires.head
      (sym c.in-Some.ensures);
}

pub drop_head-requires : goal.drop_head-requires
drop_head-requires c = some_pending c.args.queue.now c.args.head c.requires.head

pub returns-in_ok-child_turn-in-Some : goal.returns-in_ok-child_turn-in-Some
returns-in_ok-child_turn-in-Some c =
    child_takes c.args.dir.now c.args.queue.now c.child_turn.new.queue c.args.head c.in-Some.child
    c.in_ok-child_turn-in-Some.field-0
    c.requires.sound c.requires.head (sym c.in-Some.ensures) c.in_ok-child_turn-in-Some.ensures.turn
    c.in_ok-child_turn-in-Some.ensures.queue

pub returns-in-None : goal.returns-in-None
returns-in-None c =
    head_takes c.args.dir.now c.args.queue.now c.drop_head.new.self c.args.head c.requires.head (sym c.in-None.ensures)
    c.drop_head.ensures
