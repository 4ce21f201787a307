use Rattle.std.proofs.Common.{◌+◌, ℕ}
use Rattle.ad_dir_model.specs.Objects.{parent_at}
use Rattle.ad_dir_model.specs.Tree.{IsAtDepth}
use Rattle.ad_dir_objects.specs.Seen.{objects_of}
use Rattle.ad_rows_sound.proofs.Finds.{IsFurther}
use Rattle.ad_rows_sound.proofs.finding.is_placed.Given as goal

-- the object is so many parents deeper than the one that was come to
abbrev pub invariant-loop : goal.invariant-loop
invariant-loop l = ((depth : ℕ) → IsAtDepth (parent_at (objects_of l.objects)) depth l.at
    → IsAtDepth (parent_at (objects_of l.objects)) (depth + l.counter) l.number)
    × IsFurther (parent_at (objects_of l.objects)) l.at l.counter l.number
