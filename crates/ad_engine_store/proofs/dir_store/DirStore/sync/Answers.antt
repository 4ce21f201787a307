use Rattle.gate_log.proofs.Outside.{looks_not}
use Rattle.ad_engine_store.proofs.dir_store.DirStore.sync.Goals as goal

pub returns-then-self-clause-outside : goal.returns-then-self-clause-outside
returns-then-self-clause-outside g c = looks_not g.S.Site c.args.site.now
    (λ t images out left. g.met.S.Site.left_until c.args.site.now t images out left)
