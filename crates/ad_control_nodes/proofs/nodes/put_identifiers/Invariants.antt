use Rattle.std.proofs.Common.{◌≡◌, ◌++◌, take, map}
use Rattle.ad_control_graph.specs.declared.node.Node.TheVariants.{Identifier}
use Rattle.ad_control_nodes.proofs.nodes.put_identifiers.Given as goal

-- those so far
abbrev pub invariant-loop-sid : goal.invariant-loop-sid
invariant-loop-sid l = l.into.items ≡ l.initial.into.items ++ map (λ sid. Identifier sid) (take l.sid-index l.sids)
