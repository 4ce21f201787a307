use Rattle.std.proofs.Common.{List, sym, subst, ◌∙◌}
use Rattle.prop_queue.specs.declared.pending.Pending.{Pending}
use Rattle.ad_dir_model.specs.Directory.{with_pending}
use Rattle.ad_dir_model.specs.Soundness.{IsSound}
use Rattle.ad_prop.proofs.StepLaws.{step_whole}
use Rattle.ad_prop.proofs.stepping.step.Goals as goal

pub step_beside-requires : goal.step_beside-requires
step_beside-requires c =
    let same = c.in_ok-queue.ensures ∙ c.queue-2.ensures in
    subst (λ (ps : List Pending). IsSound (with_pending ps c.args.dir.now)) (sym same) c.requires

pub returns-in_ok-with_queue-in-Some-clause-made : goal.returns-in_ok-with_queue-in-Some-clause-made
returns-in_ok-with_queue-in-Some-clause-made c =
    step_whole c.args.dir.now c.in_ok-queue.queue c.step_beside.new.queue c.in-Some.edits.items
    c.in_ok-with_queue-in-Some.field-0.items
    c.requires (c.in_ok-queue.ensures ∙ c.queue-2.ensures) (rw c.in-Some.is at c.in_ok-edits.ensures.made)
    c.in_ok-with_queue-in-Some.ensures
