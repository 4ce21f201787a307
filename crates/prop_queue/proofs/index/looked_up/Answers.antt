use Rattle.prop_queue.proofs.Standing.{first_place}
use Rattle.prop_queue.proofs.index.looked_up.Goals as goal

pub returns : goal.returns
returns c = first_place c.args.parent c.args.entries.now.items c.scanned.result c.scanned.ensures
