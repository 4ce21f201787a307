use Rattle.std.proofs.Common.{[], true}
use Rattle.ad_chains.specs.Work.{IsIntoOf, Marks}
use Rattle.ad_chains.proofs.level.go_on.Given as goal

-- those that the edges which lead to the first nodes of the frontier ask for
abbrev pub invariant-loop-node : goal.invariant-loop-node
invariant-loop-node l =
    Marks (IsIntoOf l.edges l.frontier l.node-index true l.level) l.initial.links [] l.links l.next.items
