use Rattle.std.proofs.Common.{ℕ, List, refl, subst}
use Rattle.cmd_call.specs.Store.{Says}
use Rattle.cmd_call.specs.declared.outcome.Outcome.TheVariants.{NoStore}
use Rattle.cmd_call.proofs.Moments.{IsLawful}
use Rattle.cmd_store_serve.proofs.SampleSteps.{samples_behind, failed_behind, of_taken, of_failed}
use Rattle.cmd_store_serve.proofs.sampling.sample.Goals as goal

pub returns-in-Ok-true : goal.returns-in-Ok-true
returns-in-Ok-true g c =
    let law : IsLawful g.S.Site = record { output = g.met.S.Site.left_output; until = g.met.S.Site.left_until } in
    record {
      does = samples_behind g.S.Site law c.args.n c.args.site.now c.are_empty.new.site c.sample_empty.new.site
          c.sample_empty.result
          c.in-Ok-true.ensures.outside (rw c.in-Ok-true.field-0-test at c.in-Ok-true.ensures).empty
          c.sample_empty.ensures;
      site_failed = λ is. failed_behind g.S.Site c.args.site.now c.are_empty.new.site c.sample_empty.new.site
          c.in-Ok-true.ensures.outside
          (c.sample_empty.ensures.site_failed is);
    }

pub returns-in-Ok-false-clause-does : goal.returns-in-Ok-false-clause-does
returns-in-Ok-false-clause-does g c =
    let law : IsLawful g.S.Site = record { output = g.met.S.Site.left_output; until = g.met.S.Site.left_until } in
    of_taken g.S.Site law c.args.n c.args.site.now c.are_empty.new.site c.say.new.site c.say.result
    c.in-Ok-false.ensures.outside (rw c.in-Ok-false.field-0-test at c.in-Ok-false.ensures).empty
    (subst (λ (text : List ℕ). Says g.S.Site c.are_empty.new.site c.say.new.site text NoStore c.say.result)
    c.as_bytes.ensures.value c.say.ensures)

pub returns-in-Err-clause-does : goal.returns-in-Err-clause-does
returns-in-Err-clause-does g c =
    let law : IsLawful g.S.Site = record { output = g.met.S.Site.left_output; until = g.met.S.Site.left_until } in
    of_failed g.S.Site law c.args.n c.args.site.now c.are_empty.new.site c.in-Err.ensures.outside
    (c.in-Err.ensures.cause refl)
