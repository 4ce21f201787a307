use Rattle.cmd_plain.proofs.Refusals.{too_long}
use Rattle.cmd_plain.proofs.granting.answer_whole.Goals as goal

pub returns-in-Ok-None-clause-refused : goal.returns-in-Ok-None-clause-refused
returns-in-Ok-None-clause-refused g c = λ _.
    too_long (g.I.Source.rest c.args.source.now) (g.I.Source.rest c.read_whole.new.source)
    (rw c.in-Ok-None.field-0-is at c.in-Ok-None.ensures).whole
