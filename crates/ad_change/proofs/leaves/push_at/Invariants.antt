use Rattle.std.proofs.Common.{◌≡◌, ◌++◌, drop}
use Rattle.ad_change.specs.Removing.{at_depth}
use Rattle.ad_change.proofs.leaves.push_at.Given as goal

-- those so far and those that are left
abbrev pub invariant-each : goal.invariant-each
invariant-each l = l.going.items ++ at_depth l.depth (drop l.one-index l.found) ≡ l.initial.going.items
    ++ at_depth l.depth l.found
