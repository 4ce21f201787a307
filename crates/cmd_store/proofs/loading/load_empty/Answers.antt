use Rattle.std.proofs.Common.{Err, ap}
use Rattle.cmd_call.specs.declared.outcome.Outcome.{Outcome}
use Rattle.cmd_store.proofs.LoadSteps.{of_directory, of_refusal, of_nothing}
use Rattle.cmd_store.proofs.loading.load_empty.Goals as goal

pub returns-in-Ok-Directory : goal.returns-in-Ok-Directory
returns-in-Ok-Directory g c = record {
  does = of_directory g.I.Source g.S.Site c.args.source.now c.given_by_input.new.source c.args.site.now
      c.keep.new.site c.in-Ok-Directory.dir c.keep.result
      (rw c.in-Ok-Directory.field-0-is at c.in-Ok-Directory.ensures).given c.keep.ensures.keeps;
}

pub returns-in-Ok-Refusal : goal.returns-in-Ok-Refusal
returns-in-Ok-Refusal g c = record {
  does = of_refusal g.I.Source g.S.Site
      (record { output = g.met.S.Site.left_output; until = g.met.S.Site.left_until }) c.args.source.now
      c.given_by_input.new.source c.args.site.now c.refuse_line.new.site c.in-Ok-Refusal.line c.in-Ok-Refusal.cause
      c.refuse_line.result
      (rw c.in-Ok-Refusal.field-0-is at c.in-Ok-Refusal.ensures).given c.refuse_line.ensures;
}

pub returns-in-Err : goal.returns-in-Err
returns-in-Err g c = record {
  does = of_nothing g.I.Source g.S.Site
      (record { output = g.met.S.Site.left_output; until = g.met.S.Site.left_until }) c.args.source.now
      c.given_by_input.new.source c.args.site.now c.in-Err.outcome
      c.in-Err.ensures.only (λ is. c.in-Err.ensures.source_failed (ap (λ (o : Outcome). Err o) is));
}
