use Rattle.std.proofs.Common.{◌≡◌, ◌++◌, map, drop}
use Rattle.ad_types.specs.TypesOf.{set_node}
use Rattle.ad_types.proofs.build.push_sets.Given as goal

abbrev pub invariant-loop-set : goal.invariant-loop-set
invariant-loop-set l = l.nodes.items ++ map set_node (drop l.set-index l.sets) ≡ l.initial.nodes.items
    ++ map set_node l.sets
