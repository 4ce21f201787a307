use Rattle.std.proofs.Common.{◌≡◌, map, take}
use Rattle.ad_dir_model.specs.Shown.{shown_value}
use Rattle.ad_dir_objects.specs.Seen.{stored_seen}
use Rattle.ad_dir.proofs.shown.stored_values.Given as goal

-- those so far
abbrev pub invariant-loop-value : goal.invariant-loop-value
invariant-loop-value l = l.values.items ≡ map (λ s. shown_value l.dir l.syntax (stored_seen s))
    (take l.value-index l.stored)
