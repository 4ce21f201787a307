use Rattle.std.proofs.Common.{◌≡◌}
use Rattle.cmd_call.specs.declared.outcome.Outcome.TheVariants.{SiteFailed}
use Rattle.cmd_store_open.proofs.Failing.{of_site, unspent_fault}
use Rattle.cmd_store_serve.proofs.Telling.{of_cut}
use Rattle.cmd_store_serve.proofs.sampling.serve_one.Goals as goal

pub outcome_of_fault-requires : goal.outcome_of_fault-requires
outcome_of_fault-requires g c = unspent_fault c.in-Err.fault _ c.requires.unspent c.in-Err.ensures.spent

pub returns-in-Err-clause-cut : goal.returns-in-Err-clause-cut
returns-in-Err-clause-cut g c = of_cut c.in-Err.fault c.outcome_of_fault.result c.outcome_of_fault.ensures

pub returns-in-Err-clause-cause : goal.returns-in-Err-clause-cause
returns-in-Err-clause-cause g c = λ is.
    let failed : c.outcome_of_fault.result ≡ SiteFailed = cc is in
    c.in-Err.ensures.cause (of_site c.in-Err.fault c.outcome_of_fault.result c.outcome_of_fault.ensures failed)
