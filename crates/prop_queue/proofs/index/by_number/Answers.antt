use Rattle.std.proofs.Common.{sym}
use Rattle.prop_queue.proofs.Known.{unknown_absent}
use Rattle.prop_queue.proofs.index.by_number.Goals as goal

pub returns-in-None : goal.returns-in-None
returns-in-None c = unknown_absent c.args.numbers.now c.args.parent c.args.entries.now.items
    (sym c.in-None.ensures.value) c.requires.known
