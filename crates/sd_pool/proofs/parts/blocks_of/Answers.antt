use Rattle.std.proofs.Common.{ℕ, ◌+◌, ◌/◌, ap}
use Rattle.sd_pool.specs.Blocks.{blocks_for}
use Rattle.sd_pool.proofs.parts.blocks_of.Goals as goal

pub returns : goal.returns
unfolding blocks_for
returns c = ap (λ (n : ℕ). n / 64 + 1) c.saturating_sub.ensures
