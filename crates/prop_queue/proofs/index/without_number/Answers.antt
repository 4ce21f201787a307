use Rattle.prop_queue.proofs.Known.{known-less}
use Rattle.prop_queue.proofs.index.without_number.Goals as goal

pub returns : goal.returns
returns c = λ queue none known. known-less c.args.numbers c.remove-number.new.self c.args.parent queue
    c.remove-number.ensures.updates.2 none known
