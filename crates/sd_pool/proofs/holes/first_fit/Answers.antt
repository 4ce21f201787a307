use Rattle.sd_pool.specs.Holes.{suits}
use Rattle.sd_pool.proofs.Lists.{first_passes}
use Rattle.sd_pool.proofs.holes.first_fit.Goals as goal

pub returns : goal.returns
returns c = first_passes (suits c.args.blocks c.args.count) c.args.holes.now c.position_of_fit.result
    c.position_of_fit.ensures
