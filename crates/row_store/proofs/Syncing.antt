-- What a sync of a store answers.
use Rattle.std.proofs.Common.{◌≡◌, inl, ⊎_elim, Result, Ok, Err, sym, subst}
use Rattle.site_io.specs.declared.site.Site.{Ghosts}
use Rattle.gate_log.specs.Changed.{IsSynced as LogSynced}
use Rattle.gate_log.specs.declared.fault.LogFault.{LogFault}
use Rattle.gate_log.specs.declared.fault.LogFault.TheVariants as log
use Rattle.gate_log.specs.declared.log.Log.{Log}
use Rattle.row_store.specs.Changed.{IsSynced}
use Rattle.row_store.specs.Faults.{of_log}
use Rattle.row_store.specs.declared.fault.StoreFault.{StoreFault}
use Rattle.row_store.specs.declared.store.Store.{Store}
use Rattle.row_store.proofs.Calls.{with_log, spent_on, marks_on, faults_on, same_store}
use Rattle.row_store.proofs.Opening.{log_back}
use Rattle.row_store.proofs.Stores.{lasting, holds_still}

module _ {S : Type 0} (s : Ghosts S) (x y : S) (store : Store) (after : Log) where
  pub refused_sync : {T U : Type 0} (fault : LogFault) (result : Result U StoreFault) → result ≡ Err (of_log fault)
      → LogSynced {T = T} s x y store.log after (Err fault) → IsSynced s x y store (with_log store after) result
  refused_sync {U = U} fault result is made =
      subst (λ (r : Result U StoreFault). IsSynced s x y store (with_log store after) r) (sym is) (record {
        stands = made.stands;
        lasts = tt;
        every_crash = tt;
        kept = λ held table holds. holds_still store (with_log store after) held table (made.bodies held) holds;
        counts_kept = made.counts;
        generation = made.generation;
        version = made.version;
        spent = spent_on fault made.spent;
        marks = marks_on fault made.marks;
        nothing = λ e. same_store store after (made.nothing (log_back fault log.Spent e));
        faults = (faults_on fault made.faults.0, λ e. made.faults.1 (log_back fault log.Memory e));
        outside = made.outside;
        cause = λ e. made.cause (log_back fault log.Site e);
      })

  pub done_sync : {T U : Type 0} (t : T) (u : U) → LogSynced s x y store.log after (Ok t)
      → IsSynced s x y store (with_log store after) (Ok u)
  done_sync t u made = record {
    stands = made.stands;
    lasts = made.lasts;
    every_crash = lasting store (s.reads x) (s.reads y) (s.now y) (s.left y) made.outside.held made.lasts;
    kept = λ held table holds. holds_still store (with_log store after) held table (made.bodies held) holds;
    counts_kept = made.counts;
    generation = made.generation;
    version = made.version;
    spent = (λ never. absurd (cc never), λ spent. absurd (cc (made.spent.1 spent)));
    marks = (
      λ spent. ⊎_elim (λ a. inl a) (λ never. absurd (cc never)) (made.marks.0 spent),
      λ may. made.marks.1 (⊎_elim (λ a. inl a) (λ never. absurd (cc never)) may),
    );
    nothing = λ never. absurd (cc never);
    faults = ((λ never. cc never, λ never. cc never, λ never. cc never), λ never. cc never);
    outside = made.outside;
    cause = λ never. absurd (cc never);
  }
