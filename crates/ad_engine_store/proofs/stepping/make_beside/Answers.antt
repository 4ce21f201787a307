use Rattle.std.proofs.Common.{◌+◌, arith}
use Rattle.ad_engine_store.proofs.Making.{steps_from, steps_more}
use Rattle.ad_engine_store.proofs.stepping.make_beside.Goals as goal

pub loop-done-init : goal.loop-done-init
loop-done-init c = steps_from c.args.dir.now c.args.queue.now c.args.batch.now c.requires

pub loop-done-preserved : goal.loop-done-preserved
loop-done-preserved c =
    steps_more c.loop-done.done (c.loop-done.done + 1) c.args.queue.now c.loop-done.queue c.turn_beside.new.queue
    c.args.dir.now c.loop-done.dir c.take.new.dir c.args.batch.now c.loop-done.batch c.take.new.batch
    c.in-Some.turn
    c.loop-done.invariant (omega arith) (rw c.in-Some.is at c.in_ok-turn.ensures.made) c.in_ok-take-in-Some.ensures
