use Rattle.std.proofs.Common.{rules}
use Rattle.sd_pool.specs.Tallies.{hash}
use Rattle.sd_pool.proofs.tally.hash_of.Goals as goal

pub returns : goal.returns
unfolding hash
returns c = search rules
