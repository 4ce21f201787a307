use Rattle.std.proofs.Common.{◌≡◌, ◌∙◌, ap, sym, arith}
use Rattle.std.proofs.lemmas.Result.{on_ok_weaker}
use Rattle.gate_log.specs.Store.{number_of}
use Rattle.gate_log.specs.declared.version.Version.{Version}
use Rattle.gate_log.proofs.Outside.{touches_not}
use Rattle.ad_engine_store.proofs.CommitLaws.{lasts_still}
use Rattle.ad_engine_store.proofs.Rewriting.{untouched_still, one_of, two_of, on_as}
use Rattle.ad_engine_store.proofs.dir_store.DirStore.migrate_slots.Goals as goal

pub returns-then-version-eq2-clause-version : goal.returns-then-version-eq2-clause-version
returns-then-version-eq2-clause-version g c = two_of c.args.self.now.store.log.version
    (ap (λ log. number_of log.version) (sym c.log.ensures) ∙ sym c.version.ensures ∙ c.if-version-eq2.true)

pub returns-then-version-eq2-clause-every_crash : goal.returns-then-version-eq2-clause-every_crash
returns-then-version-eq2-clause-every_crash g c = lasts_still g.S.Site c.args.self.now.dir c.args.site.now

pub returns-then-version-eq2-clause-any_moment : goal.returns-then-version-eq2-clause-any_moment
returns-then-version-eq2-clause-any_moment g c =
    untouched_still c.args.self.now.dir (g.S.Site.reads c.args.site.now) (g.S.Site.now c.args.site.now)
    (g.S.Site.left c.args.site.now)
    (λ t images out left. g.met.S.Site.left_until c.args.site.now t images out left)

pub returns-then-version-eq2-clause-outside : goal.returns-then-version-eq2-clause-outside
returns-then-version-eq2-clause-outside g c = touches_not g.S.Site c.args.site.now
    (λ t images out left. g.met.S.Site.left_until c.args.site.now t images out left)

pub rewrite-requires-clause-below : goal.rewrite-requires-clause-below
rewrite-requires-clause-below g c =
    let log = c.args.self.now.store.log in
    let one = one_of log.version (λ is. c.if-version-eq2.false
    (c.version.ensures ∙ ap (λ l. number_of l.version) c.log.ensures ∙ is)) in
    omega (arith, log.one_is_first one)

pub returns-clause-every_crash : goal.returns-clause-every_crash
returns-clause-every_crash g c =
    on_ok_weaker c.rewrite.result (on_as g.S.Site c.args.self.now.dir c.args.self.now.dir c.args.site.now
    c.rewrite.new.site) c.rewrite.ensures.every_crash

pub returns-clause-untouched : goal.returns-clause-untouched
returns-clause-untouched g c = λ two.
    let is : number_of c.args.self.now.store.log.version ≡ 2 = ap number_of two in
    absurd (c.if-version-eq2.false (c.version.ensures ∙ ap (λ l. number_of l.version) c.log.ensures ∙ is))
