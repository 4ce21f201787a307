use Rattle.prop_queue.proofs.Standing.{first_place}
use Rattle.prop_queue.proofs.index.place_of.Goals as goal

pub returns-in-None : goal.returns-in-None
returns-in-None c = first_place c.args.parent c.args.entries.now.items c.scanned.result c.scanned.ensures
