use Rattle.std.proofs.Common.{subst, Option, ℕ}
use Rattle.sd_pool.specs.Found.{FirstPasses}
use Rattle.sd_pool.specs.Holes.{suits}
use Rattle.sd_pool.proofs.HoleLists.{taken_none}
use Rattle.sd_pool.proofs.holes.take.Goals as goal

pub returns-in_default-clause-taken : goal.returns-in_default-clause-taken
returns-in_default-clause-taken c = λ blocks first. taken_none blocks c.args.count c.args.holes.now.items
    (subst (λ (p : Option ℕ). FirstPasses (suits blocks c.args.count) p c.args.holes.now.items) c.in_default.is first)
