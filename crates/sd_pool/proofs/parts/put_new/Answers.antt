use Rattle.std.proofs.Common.{◌≤◌, length, arith}
use Rattle.sd_pool.specs.declared.parts.Parts.{Parts}
use Rattle.sd_pool.specs.Tallies.{count_of_hash}
use Rattle.sd_pool.specs.Kept.{live_of}
use Rattle.sd_pool.proofs.Keeping.{few_of_hash}
use Rattle.sd_pool.proofs.parts.put_new.Goals as goal

pub count_on-requires : goal.count_on-requires
count_on-requires c =
    let now : Parts = c.make_room.new.parts in
    let few : count_of_hash c.args.hash (live_of now) ≤ length (live_of now) = few_of_hash c.args.hash (live_of now) in
    omega (
      arith,
      few,
      c.in_ok-spot.ensures.kept.tallied c.args.hash,
      c.in_ok-spot.ensures.kept.laid.count,
      c.in_ok-spot.ensures.live,
      c.requires.free,
    )
