use Rattle.gate_log.proofs.resume.begins_with.Goals as goal

pub returns-in-None : goal.returns-in-None
returns-in-None c = record { head = λ rest is. c.in-None.ensures.none c.args.version c.args.generation rest is }
