use Rattle.std.proofs.Common.{ℕ, List, subst, ◌∙◌}
use Rattle.cmd_call.specs.Store.{Says}
use Rattle.cmd_call.specs.declared.outcome.Outcome.TheVariants.{Done}
use Rattle.cmd_store.proofs.KeepSteps.{kept_not, kept_refused, kept_said}
use Rattle.cmd_store.proofs.loading.keep.Goals as goal

pub returns-in-Err : goal.returns-in-Err
returns-in-Err g c = record {
  keeps = kept_not g.S.Site
      (record { output = g.met.S.Site.left_output; until = g.met.S.Site.left_until }) c.args.dir c.args.site.now;
}

pub returns-in-Ok-create_store : goal.returns-in-Ok-create_store
returns-in-Ok-create_store g c = record {
  keeps = kept_said g.S.Site (record { output = g.met.S.Site.left_output; until = g.met.S.Site.left_until })
      c.args.dir c.args.site.now c.create_store.new.site c.say.new.site c.say.result
      c.in-Ok-create_store.ensures.creating.outside c.in-Ok-create_store.ensures.held
      c.in-Ok-create_store.ensures.every_crash
      (subst (λ (text : List ℕ). Says g.S.Site c.create_store.new.site c.say.new.site text Done c.say.result)
      (c.deref.ensures.value ∙ c.in-Ok.ensures) c.say.ensures);
}

pub returns : goal.returns
returns g c = record {
  keeps = kept_refused g.S.Site (record { output = g.met.S.Site.left_output; until = g.met.S.Site.left_until })
      c.args.dir c.args.site.now c.create_store.new.site c.refuse.new.site c.in-Err-create_store.fault c.refuse.result
      c.in-Err-create_store.ensures.creating c.refuse.ensures;
}
