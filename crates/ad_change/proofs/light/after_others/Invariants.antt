use Rattle.std.proofs.Common.{◌≡◌, length}
use Rattle.ad_dir_objects.specs.Left.{left_of}
use Rattle.ad_change.specs.Others.{others_weight}
use Rattle.ad_change.proofs.OtherLaws.{behind}
use Rattle.ad_change.proofs.light.after_others.Given as goal

-- what is left is enough for those to come where it was enough for all
abbrev pub invariant-each : goal.invariant-each
invariant-each l =
    left_of l.left (others_weight l.dir.schema l.but (behind l.above l.dir.objects))
    ≡ left_of l.initial.left (others_weight l.dir.schema l.but l.dir.objects)

abbrev pub decreases-each : goal.decreases-each
decreases-each l = length (behind l.above l.dir.objects)
