use Rattle.cmd_call.proofs.Moments.{IsLawful}
use Rattle.cmd_store_serve.proofs.SampleSteps.{of_directory, of_none, of_memory}
use Rattle.cmd_store_serve.proofs.sampling.sample_empty.Goals as goal

pub returns-in-Ok-Some : goal.returns-in-Ok-Some
returns-in-Ok-Some g c =
    of_directory g.S.Site c.args.n c.args.site.now c.sample_loaded.new.site c.in-Ok-Some.dir c.sample_loaded.result
    (rw c.in-Ok-Some.field-0-is at c.in-Ok-Some.ensures).given c.sample_loaded.ensures.samples

pub returns-in-Ok-None : goal.returns-in-Ok-None
returns-in-Ok-None g c =
    let law : IsLawful g.S.Site = record { output = g.met.S.Site.left_output; until = g.met.S.Site.left_until } in
    of_none g.S.Site law c.args.n c.args.site.now (rw c.in-Ok-None.field-0-is at c.in-Ok-None.ensures).given

pub returns-in-Err : goal.returns-in-Err
returns-in-Err g c =
    let law : IsLawful g.S.Site = record { output = g.met.S.Site.left_output; until = g.met.S.Site.left_until } in
    of_memory g.S.Site law c.args.n c.args.site.now
