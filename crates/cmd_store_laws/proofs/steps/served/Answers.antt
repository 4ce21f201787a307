use Rattle.site_io.specs.MemDisk.{held_in}
use Rattle.std.proofs.Common.{refl}
use Rattle.site_io.specs.contracts.mem_site.MemSiteSite.TheImpl.{ghosts as mem_site}
use Rattle.site_io.specs.contracts.mem_source.MemSourceSource.TheImpl.{ghosts as mem_source}
use Rattle.cmd_store_laws.proofs.Holding.{opens_held, answers_held, crash_held}
use Rattle.cmd_store_laws.proofs.steps.served.Goals as goal

pub returns-clause-opens : goal.returns-clause-opens
returns-clause-opens c = λ dir said holds.
    opens_held mem_source mem_site c.in_ok-source.source c.serve.new.source c.args.site.now c.serve.new.site
    c.serve.result dir said c.serve.ensures.does holds

pub returns-clause-answers : goal.returns-clause-answers
returns-clause-answers c = answers_held mem_source mem_site c.in_ok-source.source c.serve.new.source c.args.site.now
    c.serve.new.site c.args.input.now (held_in c.args.site.now.disk) (held_in c.serve.new.site.disk) c.serve.result
    c.in_ok-source.ensures.rest refl refl c.serve.ensures.does

pub returns-clause-crash : goal.returns-clause-crash
returns-clause-crash c = crash_held mem_source mem_site c.in_ok-source.source c.serve.new.source c.args.site.now
    c.serve.new.site c.args.input.now c.serve.result c.in_ok-source.ensures.rest c.serve.ensures.does
