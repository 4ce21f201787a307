use Rattle.sd_pool.proofs.Slotted.{are_rising}
use Rattle.sd_pool.proofs.parts.is_one.Goals as goal

pub returns : goal.returns
returns c =
    let parts = c.args.parts.now in
    record {
      rise = are_rising 0 parts.blocks parts.region.items parts.slots.items c.requires.laid.region
          c.requires.laid.within;
      apart = c.requires.laid.apart;
      distinct = c.requires.laid.distinct;
    }
