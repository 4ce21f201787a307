use Rattle.std.proofs.Common.{Bool, not, sym, arith}
use Rattle.std.specs.List.{filter}
use Rattle.std.proofs.lemmas.Option.{get_or_from_slice_get}
use Rattle.prop_queue.specs.declared.pending.Pending.{Pending}
use Rattle.ad_dir_model.specs.Changes.{goes_with}
use Rattle.ad_change.proofs.Steps.{goes_on, filter_joins}
use Rattle.ad_change.proofs.deleting.staying.Goals as goal

pub loop-i-preserved : goal.loop-i-preserved
loop-i-preserved c =
    let stays : Pending → Bool = λ (one : Pending). not (goes_with c.args.dir.now c.args.target one.parent) in
    goes_on (filter stays) (filter_joins stays) c.queue-queue.result.now c.loop-i.i c.in-Some.entry
    c.loop-i.entries.items c.push_staying.new.staying.items
    (filter stays c.queue-queue.result.now) (omega (arith, c.loop-i-test.true, c.len-len.ensures.len))
    (sym (get_or_from_slice_get c.queue-queue.result.now c.loop-i.i c.in-Some.entry c.in-Some.entry
    (sym c.in-Some.ensures)))
    c.in_ok-push_staying-in-Some.ensures c.loop-i.invariant
