use Rattle.std.proofs.Common.{◌≡◌, map, drop}
use Rattle.ad_dir_objects.specs.Seen.{stored_seen}
use Rattle.ad_dir_model.specs.Weight.{values_weight}
use Rattle.ad_dir_objects.specs.Left.{left_of}
use Rattle.ad_dir_objects.proofs.weight.after_values.Given as goal

-- what is left is enough for the others where it was enough for all
abbrev pub invariant-loop-value : goal.invariant-loop-value
invariant-loop-value l = left_of l.left (values_weight (map stored_seen (drop l.value-index l.values)))
    ≡ left_of l.initial.left (values_weight (map stored_seen l.values))
