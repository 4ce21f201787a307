use Rattle.std.proofs.Common.{◌≡◌, [], drop}
use Rattle.adsd_c.specs.Tree.{placed}
use Rattle.adsd_c.proofs.tree.placed.Given as goal

-- the nodes so far, and those still to come, are the whole
abbrev pub invariant-loop-next : goal.invariant-loop-next
invariant-loop-next l = placed l.chain.items l.nodes.items (drop l.next-index l.given) ≡ placed [] [] l.fn.given
