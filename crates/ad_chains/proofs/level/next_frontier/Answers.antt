use Rattle.std.proofs.Common.{ℕ, List, refl, sym, subst}
use Rattle.ad_chains.specs.Levels.{IsClosed}
use Rattle.ad_chains.proofs.level.next_frontier.Goals as goal

pub returns-clause-levels : goal.returns-clause-levels
returns-clause-levels c = λ end level.
    c.in_ok-next.ensures.levels end c.args.level refl
    (subst (λ (l : List ℕ). IsClosed c.args.edges.now end c.close.new.links l c.args.level)
    (sym c.as_slice.ensures.value) (c.in_ok-close.ensures.levels end level))
