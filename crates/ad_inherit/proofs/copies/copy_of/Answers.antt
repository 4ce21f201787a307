use Rattle.std.proofs.Common.{refl}
use Rattle.ad_inherit.proofs.CopyFlags.{clear_of_20}
use Rattle.ad_inherit.proofs.copies.copy_of.Goals as goal

pub invariant_of-result : goal.invariant_of-result
invariant_of-result c = clear_of_20 c.entry.inside.flags _ c.args.flags refl c.requires
