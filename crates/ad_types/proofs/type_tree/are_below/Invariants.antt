use Rattle.std.proofs.Common.{◌≡◌, drop}
use Rattle.ad_types.specs.Tree.{are_below}
use Rattle.ad_types.proofs.type_tree.are_below.Given as goal

-- what the nodes from here on give is what all give
abbrev pub invariant-loop-i : goal.invariant-loop-i
invariant-loop-i l = are_below l.i (drop l.i l.nodes) ≡ are_below 0 l.nodes
