use Rattle.std.proofs.Common.{◌≡◌, ◌++◌, drop}
use Rattle.ad_search.specs.Subtree.{below_each}
use Rattle.ad_search.proofs.subtree.below_each.Given as goal

-- those so far and those that are left
abbrev pub invariant-each : goal.invariant-each
invariant-each l = l.below.items ++ below_each l.dir.objects (drop l.number-index l.level) ≡ below_each l.dir.objects
    l.level
