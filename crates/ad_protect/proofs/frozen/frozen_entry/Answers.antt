use Rattle.ad_protect.proofs.Values.{clear_of_20}
use Rattle.ad_protect.proofs.frozen.frozen_entry.Goals as goal

pub invariant_of-result : goal.invariant_of-result
invariant_of-result c = clear_of_20 c.entry.inside.flags
