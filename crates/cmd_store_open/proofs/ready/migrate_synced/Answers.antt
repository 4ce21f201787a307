use Rattle.std.proofs.Common.{inl, inr, ⊎_elim}
use Rattle.cmd_call.proofs.Moments.{IsLawful, rises_from}
use Rattle.cmd_store_open.proofs.Failing.{of_site, unspent_fault}
use Rattle.cmd_store_open.proofs.Readying.{opening_on, ready_on}
use Rattle.cmd_store_open.proofs.Parts.{not_so}
use Rattle.cmd_store_open.proofs.ready.migrate_synced.Goals as goal

pub returns-in-Ok-clause-ready : goal.returns-in-Ok-clause-ready
returns-in-Ok-clause-ready g c = λ old looks store.
    let s = g.S.Site in
    let law : IsLawful s = record { output = g.met.S.Site.left_output; until = g.met.S.Site.left_until } in
    let made = c.in-Ok.ensures in
    ready_on s law c.args.engine.now.dir old c.args.site.now c.migrate.new.site looks store c.requires.lasts
    made.outside made.any_moment made.untouched

pub returns-in-Ok-clause-unspent : goal.returns-in-Ok-clause-unspent
returns-in-Ok-clause-unspent g c = not_so c.migrate.new.self.spent _ c.in-Ok.ensures.marks.0 (λ no. absurd cc)

pub outcome_of_fault-requires : goal.outcome_of_fault-requires
outcome_of_fault-requires g c = unspent_fault c.in-Err.fault _ c.requires.unspent c.in-Err.ensures.spent

pub returns-in-Err-clause-failed : goal.returns-in-Err-clause-failed
returns-in-Err-clause-failed g c = λ old looks store.
    let s = g.S.Site in
    let law : IsLawful s = record { output = g.met.S.Site.left_output; until = g.met.S.Site.left_until } in
    let made = c.in-Err.ensures in
    let ends = c.outcome_of_fault.ensures in
    record {
      synced = s.now c.args.site.now;
      opening = opening_on s law c.args.engine.now.dir old c.args.site.now c.migrate.new.site looks store
          c.requires.lasts made.outside made.any_moment made.untouched;
      cause = λ is. rises_from (s.slot_faults old) (s.slot_faults c.args.site.now) (s.slot_faults c.migrate.new.site)
          looks.never_falls (made.cause (of_site c.in-Err.fault c.outcome_of_fault.result ends is));
      only = ⊎_elim (λ site. inl site.1) (λ memory. inr memory.1) ends;
    }
