use Rattle.std.proofs.Common.{◌≡◌, ◌++◌, drop, not}
use Rattle.std.specs.List.{filter}
use Rattle.prop_queue.specs.declared.pending.Pending.{Pending}
use Rattle.ad_dir_model.specs.Changes.{goes_with}
use Rattle.ad_change.proofs.deleting.staying.Given as goal

-- the entries that stay so far and of those that are left are all that stay
abbrev pub invariant-loop-i : goal.invariant-loop-i
invariant-loop-i l =
    l.entries.items ++ filter (λ (one : Pending). not (goes_with l.dir l.target one.parent)) (drop l.i l.queue)
    ≡ filter (λ (one : Pending). not (goes_with l.dir l.target one.parent)) l.queue
