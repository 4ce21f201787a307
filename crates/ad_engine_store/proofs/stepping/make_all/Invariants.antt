use Rattle.ad_engine_store.specs.Stepping.{IsMaking}
use Rattle.ad_engine_store.proofs.stepping.make_all.Given as goal

-- those made so far, and the others
abbrev pub invariant-loop-edit : goal.invariant-loop-edit
invariant-loop-edit l =
    (goal.iterator-loop-edit).can_next l.edit-iterator × (goal.iterator-loop-edit).is_finite l.edit-iterator
    × IsMaking l.fn.edits.items l.edit-iterator.rest.items l.fn.dir l.dir l.fn.batch l.batch
