use Rattle.std.proofs.Common.{subst, Option, ℕ}
use Rattle.sd_pool.specs.Found.{FirstPasses}
use Rattle.sd_pool.specs.Holes.{suits}
use Rattle.sd_pool.proofs.HoleLists.{fit_at, fit_none}
use Rattle.sd_pool.proofs.holes.block_at.Goals as goal

pub returns-in-Some : goal.returns-in-Some
returns-in-Some c = λ count first. fit_at c.args.blocks count c.in-Some.place c.args.holes.now
    (record { block = 0; end = 0 }) (subst
    (λ (p : Option ℕ). FirstPasses (suits c.args.blocks count) p c.args.holes.now) c.in-Some.is first)

pub returns-in-None : goal.returns-in-None
returns-in-None c = λ count first. fit_none c.args.blocks count c.args.holes.now
    (subst (λ (p : Option ℕ). FirstPasses (suits c.args.blocks count) p c.args.holes.now) c.in-None.is first)
