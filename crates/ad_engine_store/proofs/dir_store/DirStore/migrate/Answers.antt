use Rattle.std.proofs.Common.{refl}
use Rattle.gate_log.proofs.Outside.{touches_not}
use Rattle.ad_engine_store.proofs.Rewriting.{untouched_still, untouched_two, untouched_same}
use Rattle.ad_engine_store.proofs.dir_store.DirStore.migrate.Goals as goal

pub returns-then-self-clause-any_moment : goal.returns-then-self-clause-any_moment
returns-then-self-clause-any_moment g c =
    untouched_still c.args.self.now.dir (g.S.Site.reads c.args.site.now) (g.S.Site.now c.args.site.now)
    (g.S.Site.left c.args.site.now)
    (λ t images out left. g.met.S.Site.left_until c.args.site.now t images out left)

pub returns-then-self-clause-outside : goal.returns-then-self-clause-outside
returns-then-self-clause-outside g c = touches_not g.S.Site c.args.site.now
    (λ t images out left. g.met.S.Site.left_until c.args.site.now t images out left)

pub returns-then-self-clause-untouched : goal.returns-then-self-clause-untouched
returns-then-self-clause-untouched g c = untouched_same (g.S.Site.reads c.args.site.now) _ refl

pub returns-in_err-migrate_slots-clause-untouched : goal.returns-in_err-migrate_slots-clause-untouched
returns-in_err-migrate_slots-clause-untouched g c =
    untouched_two c.args.self.now (g.S.Site.reads c.args.site.now) _ (c.requires c.if-self.false).held
    c.migrate_slots.ensures.untouched

pub returns-clause-untouched : goal.returns-clause-untouched
returns-clause-untouched g c =
    untouched_two c.args.self.now (g.S.Site.reads c.args.site.now) _ (c.requires c.if-self.false).held
    c.migrate_slots.ensures.untouched
