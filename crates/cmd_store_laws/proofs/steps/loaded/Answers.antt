use Rattle.std.proofs.Common.{Err, refl}
use Rattle.cmd_call.specs.declared.outcome.Outcome.TheVariants.{NotOfForm}
use Rattle.site_io.specs.contracts.mem_site.MemSiteSite.TheImpl.{ghosts as mem_site}
use Rattle.site_io.specs.contracts.mem_source.MemSourceSource.TheImpl.{ghosts as mem_source}
use Rattle.cmd_store_laws.proofs.Holding.{err_is, unloaded, refused_loaded, never_taken}
use Rattle.cmd_store_laws.proofs.steps.loaded.Goals as goal

pub returns : goal.returns
returns c = record {
  ok = tt;
  refused = λ is. refused_loaded mem_source mem_site c.in_ok-source.source c.load.new.source c.in_ok-site.site
      c.load.new.site c.args.text.now c.in_ok-source.ensures.rest
      (c.load.ensures.does.refused (err_is c.load.result NotOfForm (Err c.load.result) refl is));
  only = unloaded c.load.result c.load.ensures.only c.in_default.not-Done
      (λ taken. never_taken mem_source mem_site c.in_ok-source.source c.load.new.source c.in_ok-site.site
      c.load.new.site c.in_ok-site.ensures.reads (c.load.ensures.does.taken taken));
}
