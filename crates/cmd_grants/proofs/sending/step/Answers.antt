use Rattle.cmd_call.proofs.Moments.{IsLawful}
use Rattle.cmd_grants.proofs.HoldSteps.{stopped_before}
use Rattle.cmd_grants.proofs.sending.step.Goals as goal

pub returns-in-Err-Memory-clause-cut : goal.returns-in-Err-Memory-clause-cut
returns-in-Err-Memory-clause-cut g c =
    let law : IsLawful g.S.Site = record { output = g.met.S.Site.left_output; until = g.met.S.Site.left_until } in
    stopped_before g.S.Site law c.args.dir.now c.args.taken.now c.args.rest.now c.args.held.now.items
    c.args.site.now
