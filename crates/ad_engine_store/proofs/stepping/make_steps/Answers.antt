use Rattle.std.proofs.Common.{◌∙◌, List, sym, subst}
use Rattle.prop_queue.specs.declared.pending.Pending.{Pending}
use Rattle.ad_dir_model.specs.Directory.{with_pending}
use Rattle.ad_dir_model.specs.Soundness.{IsSound}
use Rattle.ad_engine_store.proofs.Making.{list_may, steps_kept, list_kept}
use Rattle.ad_engine_store.proofs.stepping.make_steps.Goals as goal

pub make_beside-requires : goal.make_beside-requires
make_beside-requires c =
    subst (λ (ps : List Pending). IsSound (with_pending ps c.args.dir.now))
    (sym (c.in_ok-queue.ensures ∙ c.queue.ensures)) c.requires

pub put_queue-requires : goal.put_queue-requires
put_queue-requires c =
    list_may c.in_ok-n.n c.in_ok-queue.queue c.make_beside.new.queue c.args.dir.now c.make_beside.new.dir
    c.args.batch.now c.make_beside.new.batch
    c.in_ok-n.ensures.steps

pub returns-clause-steps : goal.returns-clause-steps
returns-clause-steps c =
    steps_kept c.in_ok-n.n c.in_ok-queue.queue c.make_beside.new.queue c.args.dir.now c.make_beside.new.dir
    c.put_queue.new.dir
    c.args.batch.now c.make_beside.new.batch c.put_queue.new.batch (c.in_ok-queue.ensures ∙ c.queue.ensures)
    c.in_ok-n.ensures.steps c.in_ok-put_queue.ensures

pub returns-clause-empty : goal.returns-clause-empty
returns-clause-empty c = λ less.
    list_kept c.make_beside.new.queue c.make_beside.new.dir c.put_queue.new.dir c.make_beside.new.batch
    c.put_queue.new.batch c.in_ok-put_queue.ensures
    ∙ c.in_ok-n.ensures.empty less
