use Rattle.cmd_store.proofs.Whole.{refused_whole}
use Rattle.cmd_store.proofs.loading.given_by_input.Goals as goal

pub returns-in-Refusal-clause-given : goal.returns-in-Refusal-clause-given
returns-in-Refusal-clause-given g c = refused_whole (g.I.Source.rest c.args.source.now)
    (g.I.Source.rest c.read_input.new.source)
    c.in-Refusal.line c.in-Refusal.cause (rw c.in-Refusal.is at c.in_ok-records.ensures.read)
