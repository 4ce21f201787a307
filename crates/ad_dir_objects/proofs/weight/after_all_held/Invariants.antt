use Rattle.std.proofs.Common.{◌≡◌, map, drop}
use Rattle.ad_dir_objects.specs.Seen.{held_seen}
use Rattle.ad_dir_model.specs.Weight.{all_held_weight}
use Rattle.ad_dir_objects.specs.Left.{left_of}
use Rattle.ad_dir_objects.proofs.weight.after_all_held.Given as goal

-- what is left is enough for the others where it was enough for all
abbrev pub invariant-loop-held : goal.invariant-loop-held
invariant-loop-held l = left_of l.left (all_held_weight l.schema (map held_seen (drop l.held-index l.values)))
    ≡ left_of l.initial.left (all_held_weight l.schema (map held_seen l.values))
