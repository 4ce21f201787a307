use Rattle.std.proofs.Common.{◌≡◌, drop}
use Rattle.ad_dir_objects.specs.Seen.{objects_of}
use Rattle.ad_dir_model.specs.Weight.{objects_weight}
use Rattle.ad_dir_objects.specs.Left.{left_of}
use Rattle.ad_dir_objects.proofs.weight.after_objects.Given as goal

-- what is left is enough for the others where it was enough for all
abbrev pub invariant-loop-entry : goal.invariant-loop-entry
invariant-loop-entry l = left_of l.left (objects_weight l.schema (objects_of (drop l.entry-index l.objects)))
    ≡ left_of l.initial.left (objects_weight l.schema (objects_of l.objects))
