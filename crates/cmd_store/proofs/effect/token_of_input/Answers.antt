use Rattle.cmd_store.proofs.TokenLength.{too_long}
use Rattle.cmd_store.proofs.effect.token_of_input.Goals as goal

pub returns-in-Ok-None-clause-refused : goal.returns-in-Ok-None-clause-refused
returns-in-Ok-None-clause-refused g c = λ _. too_long (g.I.Source.rest c.args.source.now)
    (g.I.Source.rest c.read_whole.new.source)
    (rw c.in-Ok-None.field-0-is at c.in-Ok-None.ensures).whole

pub returns-clause-source_failed : goal.returns-clause-source_failed
returns-clause-source_failed g c = λ is. absurd (c.token_of.ensures.not_source is)
