use Rattle.std.proofs.Common.{◌≡◌, ◌+◌, ◌-◌, ◌≤◌}
use Rattle.ad_change.specs.Depths.{parent_then}
use Rattle.ad_change.specs.Tree.{depth_within, depth_of}
use Rattle.ad_change.proofs.depth.depth_then.Given as goal

-- the parents so far, and those that are left
abbrev pub invariant-up : goal.invariant-up
invariant-up l = (l.depth ≤ 65)
    × (l.depth + depth_within (parent_then l.dir l.moved l.parent) (65 - l.depth) l.at
    ≡ depth_of (parent_then l.dir l.moved l.parent) l.number)

abbrev pub decreases-up : goal.decreases-up
decreases-up l = 65 - l.depth
