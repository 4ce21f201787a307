use Rattle.std.proofs.Common.{ℕ}
use Rattle.ad_search.specs.Needed.{IsMet}
use Rattle.ad_search.proofs.NextLaws.{next_after}
use Rattle.ad_search.proofs.candidates.next_of_some.Goals as goal

pub returns : goal.returns
returns c = λ plan.
    next_after c.args.dir.now (λ (n : ℕ). IsMet c.args.dir.now n plan) c.args.above c.after.result c.invariants.ensures
    c.after.ensures.above c.after.ensures.nearest
