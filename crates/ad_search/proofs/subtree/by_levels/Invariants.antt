use Rattle.std.proofs.Common.{◌≡◌, ◌∷◌, [], ◌++◌}
use Rattle.ad_search.specs.Subtree.{levels_from}
use Rattle.ad_search.proofs.subtree.by_levels.Given as goal

-- those so far and the levels that are left
abbrev pub invariant-down : goal.invariant-down
invariant-down l = l.found.items ++ levels_from l.dir.objects l.left l.level.items ≡ levels_from l.dir.objects 65
    (l.base ∷ [])

abbrev pub decreases-down : goal.decreases-down
decreases-down l = l.left
