use Rattle.std.proofs.Common.{◌∙◌, suc, inl, inr, ⊎_elim, sym, subst}
use Rattle.std.specs.Option.{IfSome}
use Rattle.std.proofs.lemmas.Result.{on_ok_weaker, IfErr-weaker}
use Rattle.site_io.proofs.Looking.{looks_on}
use Rattle.ad_dir_model.specs.Directory.{Directory}
use Rattle.cmd_call.proofs.Moments.{IsLawful, told_on, rises_from}
use Rattle.cmd_store_open.specs.Opened.{EachStandsFor}
use Rattle.cmd_store_open.specs.Ready.{IsReadySince, IsUnreadySince}
use Rattle.cmd_store_open.proofs.Failing.{of_site, unspent_fault}
use Rattle.cmd_store_open.proofs.Readying.{opening_failed}
use Rattle.cmd_store_open.proofs.Parts.{not_so}
use Rattle.cmd_store_open.proofs.ready.make_ready.Goals as goal

pub migrate_synced-requires-clause-lasts : goal.migrate_synced-requires-clause-lasts
migrate_synced-requires-clause-lasts g c =
    let s = g.S.Site in
    let made = c.in-Ok.ensures in
    subst (λ (d : Directory). IfSome (s.reads c.sync.new.site) (λ held. EachStandsFor s d c.sync.new.site))
    (sym made.dir)
    (told_on (λ held. EachStandsFor s c.args.engine.now.dir c.sync.new.site) (s.reads c.args.site.now)
    (s.reads c.sync.new.site) made.outside.held made.every_crash)

pub migrate_synced-requires-clause-unspent : goal.migrate_synced-requires-clause-unspent
migrate_synced-requires-clause-unspent g c = not_so c.sync.new.self.spent _ c.in-Ok.ensures.marks.0 (λ no. absurd cc)

pub returns-in-Ok-clause-ready : goal.returns-in-Ok-clause-ready
returns-in-Ok-clause-ready g c =
    let s = g.S.Site in
    let made = c.in-Ok.ensures in
    let z = c.migrate_synced.new.site in
    on_ok_weaker c.migrate_synced.result
    (λ ready old looks store.
    subst (λ (d : Directory). IsReadySince s d c.sync.new.site z) made.dir ready old
    (looks_on s old c.args.site.now c.sync.new.site looks made.outside) store)
    c.migrate_synced.ensures.ready

pub returns-in-Ok-clause-failed : goal.returns-in-Ok-clause-failed
returns-in-Ok-clause-failed g c =
    let s = g.S.Site in
    let made = c.in-Ok.ensures in
    let z = c.migrate_synced.new.site in
    IfErr-weaker c.migrate_synced.result _ (IsUnreadySince s c.args.engine.now.dir c.args.site.now z)
    (λ outcome unready old looks store.
    subst (λ (d : Directory). IsUnreadySince s d c.sync.new.site z outcome) made.dir unready old
    (looks_on s old c.args.site.now c.sync.new.site looks made.outside) store)
    c.migrate_synced.ensures.failed

pub returns-in-Ok-clause-dir : goal.returns-in-Ok-clause-dir
returns-in-Ok-clause-dir g c = c.migrate_synced.ensures.dir ∙ c.in-Ok.ensures.dir

pub returns-in-Ok-clause-tokens : goal.returns-in-Ok-clause-tokens
returns-in-Ok-clause-tokens g c = c.migrate_synced.ensures.tokens ∙ c.in-Ok.ensures.tokens

pub outcome_of_fault-requires : goal.outcome_of_fault-requires
outcome_of_fault-requires g c = unspent_fault c.in-Err.fault _ c.requires.unspent c.in-Err.ensures.spent

pub returns-in-Err-clause-failed : goal.returns-in-Err-clause-failed
returns-in-Err-clause-failed g c = λ old looks store.
    let s = g.S.Site in
    let law : IsLawful s = record { output = g.met.S.Site.left_output; until = g.met.S.Site.left_until } in
    let made = c.in-Err.ensures in
    let ends = c.outcome_of_fault.ensures in
    record {
      synced = suc (s.now c.sync.new.site);
      opening = opening_failed s law c.args.engine.now.dir old c.sync.new.site
          (looks_on s old c.args.site.now c.sync.new.site looks made.outside) store;
      cause = λ is. rises_from (s.slot_faults old) (s.slot_faults c.args.site.now) (s.slot_faults c.sync.new.site)
          looks.never_falls (made.cause (of_site c.in-Err.fault c.outcome_of_fault.result ends is));
      only = ⊎_elim (λ site. inl site.1) (λ memory. inr memory.1) ends;
    }
