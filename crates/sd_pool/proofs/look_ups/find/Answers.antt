use Rattle.std.proofs.Common.{ap, sym}
use Rattle.std.specs.Option.{option_map}
use Rattle.sd_pool.specs.Blocks.{Extent}
use Rattle.sd_pool.proofs.Keeping.{holder_found}
use Rattle.sd_pool.proofs.look_ups.find.Goals as goal

pub returns-in-Ok : goal.returns-in-Ok
returns-in-Ok c = sym (ap (option_map (λ (e : Extent). e.id))
    (holder_found c.args.parts.now c.args.bytes.now c.in-Ok.id c.requires c.in-Ok.ensures))
