use Rattle.std.proofs.Common.{◌≡◌, ◌++◌, take, map}
use Rattle.ad_control_graph.specs.declared.node.Node.TheVariants.{Object}
use Rattle.ad_control_nodes.proofs.nodes.put_objects.Given as goal

-- those so far
abbrev pub invariant-loop-number : goal.invariant-loop-number
invariant-loop-number l =
    l.into.items ≡ l.initial.into.items ++ map (λ number. Object number) (take l.number-index l.numbers)
