use Rattle.std.proofs.Common.{◌≡◌, ℕ, [], true, length, refl, subst, arith}
use Rattle.ad_chains.specs.Work.{IsIntoOf, Marks}
use Rattle.ad_chains.proofs.Asking.{more_into}
use Rattle.ad_chains.proofs.Levelling.{level_next}
use Rattle.ad_chains.proofs.level.go_on.Goals as goal

pub loop-node-preserved : goal.loop-node-preserved
loop-node-preserved c =
    more_into c.args.edges.now c.args.frontier.now c.loop-node.node-index true c.args.level c.args.links.now
    c.loop-node.links c.mark_into.new.links [] c.loop-node.next.items c.mark_into.new.list.items c.loop-node.invariant
    c.in_ok-mark_into.ensures

pub returns-clause-levels : goal.returns-clause-levels
returns-clause-levels c = λ end before one closed.
    let whole : c.loop-node.node-index ≡ length c.args.frontier.now = omega arith in
    level_next c.args.edges.now end c.args.links.now c.loop-node.links c.args.frontier.now [] c.loop-node.next.items
    c.args.level before one refl closed
    (subst (λ (n : ℕ). Marks (IsIntoOf c.args.edges.now c.args.frontier.now n true c.args.level) c.args.links.now []
    c.loop-node.links c.loop-node.next.items) whole c.loop-node.invariant)
