-- Opening a store, from what its log and its bodies say.
use Rattle.std.proofs.Common.{◌≡◌, ◌⊎◌, ⊎_elim, ◌∙◌, ℕ, List, Vec, Option, Some, None, Result, Ok, Err, refl, sym, ap}
use Rattle.std.proofs.Common.{subst}
use Rattle.std.specs.Option.{IfSome}
use Rattle.std.specs.Result.{IsErr, IsErrOf}
use Rattle.std.specs.declared.alloc.Global.{Global}
use Rattle.site_io.specs.Disk.{Images}
use Rattle.site_io.specs.Outside.{OnlyLooks}
use Rattle.site_io.specs.declared.site.Site.{Ghosts}
use Rattle.gate_log.specs.Counts.{Counts}
use Rattle.gate_log.specs.Resumed.{IsResumed as LogResumed}
use Rattle.gate_log.specs.Store.{HasBodies, IsBrokenStore, IsEmptyStore}
use Rattle.gate_log.specs.StoreOfLog.{RestsIn}
use Rattle.gate_log.specs.declared.fault.LogFault.{LogFault}
use Rattle.gate_log.specs.declared.fault.LogFault.TheVariants as log
use Rattle.gate_log.specs.declared.log.Log.{Log}
use Rattle.gate_log.proofs.Opening.{always_told}
use Rattle.gate_log.proofs.Single.{none_empty}
use Rattle.row_store.specs.Faults.{of_log}
use Rattle.row_store.specs.Resumed.{IsResumed}
use Rattle.row_store.specs.declared.fault.StoreFault.{StoreFault}
use Rattle.row_store.specs.declared.fault.StoreFault.TheVariants.{Taken, Empty, Broken, Spent, Site, Memory}
use Rattle.row_store.specs.declared.row.Row.{Row}
use Rattle.row_store.specs.declared.store.Store.{Store}
use Rattle.row_store.specs.Row.{SpellBatches}
use Rattle.row_store.specs.Rows.{HasTable, HoldsTable, IsBrokenTable}
use Rattle.row_store.specs.Table.{Table, SameTable, AreListed, table_of, all_rows}
use Rattle.row_store.proofs.RowCodec.{batch_one}
use Rattle.row_store.proofs.Stores.{map_told}
use Rattle.row_store.proofs.Tables.{one_spelling}

abbrev pub Answer : Type 0
Answer = Result (Store × Vec Row Global) StoreFault

-- which fault of the log it was
abbrev log_of : StoreFault → LogFault
log_of Taken = log.Taken
log_of Empty = log.Empty
log_of Broken = log.Broken
log_of Spent = log.Spent
log_of Site = log.Site
log_of Memory = log.Memory

log_of_log : (fault : LogFault) → log_of (of_log fault) ≡ fault
log_of_log log.Taken = refl
log_of_log log.Empty = refl
log_of_log log.Broken = refl
log_of_log log.Spent = refl
log_of_log log.Site = refl
log_of_log log.Memory = refl

pub log_back : {T U : Type 0} (fault g : LogFault) → IsErrOf {T = U} (Err (of_log fault)) (of_log g)
    → IsErrOf {T = T} (Err fault) g
log_back fault g is =
    let same : of_log fault ≡ of_log g = cc is in
    ap (λ (f : LogFault). Err f) (sym (log_of_log fault) ∙ ap log_of same ∙ log_of_log g)

pub broken_table : (r : Option Images) → IfSome r IsBrokenStore → IfSome r IsBrokenTable
broken_table r broken = map_told IsBrokenStore IsBrokenTable r
    (λ held b. record { full = b.full; none = λ table has. b.none has.bodies has.has }) broken

-- bodies that are no batches
pub no_table : (r : Option Images) (bodies : List (List ℕ)) → IfSome r (λ held. HasBodies held bodies)
    → IfSome r (λ held. (others : List (List ℕ)) → HasBodies held others → others ≡ bodies)
    → ((batches : List (List Row)) → SpellBatches batches bodies → ⊥) → IfSome r IsBrokenTable
no_table None bodies has only none = tt
no_table (Some held) bodies has only none = record {
  full = λ empty. none_empty held bodies empty has;
  none = λ table table_has. none table_has.left.batches
      (subst (SpellBatches table_has.left.batches) (only table_has.bodies table_has.has) table_has.left.spelled);
}

pub never_refused : {X : Type 0} (result : Result X StoreFault) (r : Option Images) → (IsErrOf result Empty → ⊥)
    → (IsErrOf result Broken → IfSome r IsBrokenTable)
    → IfSome r (λ held. (table : Table) → HasTable held table → (IsErrOf result Empty → ⊥)
    × (IsErrOf result Broken → ⊥))
never_refused result None empty broken = tt
never_refused result (Some held) empty broken = λ table has. (empty, λ is. (broken is).none table has)

same_on : (first second third : Table) → SameTable first second → SameTable second third → SameTable first third
same_on first second third this that kind number = that kind number ∙ this kind number

pub found_rows : (store : Store) (r : Option Images) (bodies : List (List ℕ)) (batches : List (List Row))
    (between table : Table) → IfSome r (λ held. RestsIn store.log held bodies)
    → SpellBatches batches bodies → SameTable (table_of (all_rows batches)) between → SameTable between table
    → IfSome r (λ held. HoldsTable store held table)
found_rows store r bodies batches between table rests spelled first second =
    map_told (λ held. RestsIn store.log held bodies) (λ held. HoldsTable store held table) r
    (λ held here. record {
      bodies = bodies;
      rests = here;
      left
          = record {
            batches = batches;
            spelled = spelled;
            same = same_on (table_of (all_rows batches)) between table
                first second;
          };
    }) rests

pub found_only : (r : Option Images) (bodies : List (List ℕ)) (batches : List (List Row)) (between rows : Table)
    → IfSome r (λ held. (others : List (List ℕ)) → HasBodies held others → others ≡ bodies)
    → SpellBatches batches bodies → SameTable (table_of (all_rows batches)) between → SameTable between rows
    → IfSome r (λ held. (table : Table) → HasTable held table → SameTable rows table)
found_only r bodies batches between rows only spelled first second =
    map_told (λ held. (others : List (List ℕ)) → HasBodies held others → others ≡ bodies)
    (λ held. (table : Table) → HasTable held table → SameTable rows table) r
    (λ held here table has kind number.
    let one : has.left.batches ≡ batches = one_spelling batches has.left.batches bodies batch_one spelled
    (subst (SpellBatches has.left.batches) (here has.bodies has.has) has.left.spelled) in
    has.left.same kind number ∙ ap (λ (bs : List (List Row)). table_of (all_rows bs) kind number) one
    ∙ sym (first kind number) ∙ sym (second kind number)) only

-- ---- whole calls

module _ {S : Type 0} (s : Ghosts S) where
  -- the log refused
  pub refused_resume : {T : Type 0} (x y : S) (shown : T → List (List ℕ)) (fault : LogFault) (result : Answer)
      → result ≡ Err (of_log fault) → LogResumed s x y (Err fault) shown → IsResumed s x y result
  refused_resume {T = T} x y shown fault result is refused =
      subst (λ (r : Answer). IsResumed s x y r) (sym is) (record {
        rows = tt;
        listed = tt;
        only = tt;
        counts = tt;
        empty = λ e. refused.empty (log_back fault log.Empty e);
        broken = λ e. broken_table (s.reads x) (refused.broken (log_back fault log.Broken e));
        complete = map_told (λ held. (bodies : List (List ℕ)) → HasBodies held bodies
            → (IsErrOf first log.Empty → ⊥) × (IsErrOf first log.Broken → ⊥))
            (λ held. (table : Table) → HasTable held table → (IsErrOf second Empty → ⊥) × (IsErrOf second Broken → ⊥))
            (s.reads x) (λ held never table has. (
              λ e. (never has.bodies has.has).0 (log_back fault log.Empty e),
              λ e. (never has.bodies has.has).1 (log_back fault log.Broken e),
            )) refused.complete;
        complete_empty = map_told (λ held. IsEmptyStore held → IsErr first × (IsErrOf first log.Broken → ⊥))
            (λ held. IsEmptyStore held → IsErr second × (IsErrOf second Broken → ⊥)) (s.reads x)
            (λ held never empty. (refl, λ e. (never empty).1 (log_back fault log.Broken e))) refused.complete_empty;
        stands = tt;
        unspent = tt;
        faults = (
          λ e. refused.faults.0 (log_back fault log.Taken e),
          λ e. refused.faults.1 (log_back fault log.Spent e),
        );
        outside = refused.outside;
        cause = λ e. refused.cause (log_back fault log.Site e);
      })
    where
      first : Result (Log × T) LogFault
      first = Err fault

      second : Answer
      second = Err (of_log fault)

  -- the bodies are no batches, or there was no memory for their rows
  pub unread_resume : (x y : S) (bodies : List (List ℕ)) (e : StoreFault) (result : Answer) → result ≡ Err e
      → (e ≡ Broken) ⊎ (e ≡ Memory) → OnlyLooks s x y → IfSome (s.reads x) (λ held. HasBodies held bodies)
      → (e ≡ Broken → IfSome (s.reads x) IsBrokenTable) → IsResumed s x y result
  unread_resume x y bodies e result is may looks has broken =
      subst (λ (r : Answer). IsResumed s x y r) (sym is) (record {
        rows = tt;
        listed = tt;
        only = tt;
        counts = tt;
        empty = λ never. absurd (not_empty never);
        broken = told;
        complete = never_refused here (s.reads x) not_empty told;
        complete_empty = map_told (λ held. HasBodies held bodies)
            (λ held. IsEmptyStore held → IsErr here × (IsErrOf here Broken → ⊥)) (s.reads x)
            (λ held full empty. absurd (none_empty held bodies empty full)) has;
        stands = tt;
        unspent = tt;
        faults = (
          λ never. ⊎_elim (λ a. cc (a, never)) (λ b. cc (b, never)) may,
          λ never. ⊎_elim (λ a. cc (a, never)) (λ b. cc (b, never)) may,
        );
        outside = looks;
        cause = λ never. absurd (not_site never);
      })
    where
      here : Answer
      here = Err e

      not_empty : IsErrOf here Empty → ⊥
      not_empty never = ⊎_elim (λ a. cc (a, never)) (λ b. cc (b, never)) may

      not_site : IsErrOf here Site → ⊥
      not_site never = ⊎_elim (λ a. cc (a, never)) (λ b. cc (b, never)) may

      told : IsErrOf here Broken → IfSome (s.reads x) IsBrokenTable
      told now = let same : e ≡ Broken = cc now in broken same

  -- the same rows, in memory of their own
  pub same_rows : (x y : S) (store : Store) (rows copies : Vec Row Global) → copies.items ≡ rows.items
      → IsResumed s x y (Ok (store, rows)) → IsResumed s x y (Ok (store, copies))
  same_rows x y store rows copies same resumed = record {
    rows = subst (λ (l : List Row). IfSome (s.reads x) (λ held. HoldsTable store held (table_of l))) (sym same)
        resumed.rows;
    listed = subst AreListed (sym same) resumed.listed;
    only = subst (λ (l : List Row). IfSome (s.reads x) (λ held. (table : Table) → HasTable held table
        → SameTable (table_of l) table)) (sym same) resumed.only;
    counts = resumed.counts;
    empty = λ never. absurd cc;
    broken = λ never. absurd cc;
    complete = always_told (λ held. (table : Table) → HasTable held table → (IsErrOf here Empty → ⊥)
        × (IsErrOf here Broken → ⊥)) (s.reads x) (λ held table has. (λ never. cc never, λ never. cc never));
    complete_empty = map_told (λ held. IsEmptyStore held → IsErr before × (IsErrOf before Broken → ⊥))
        (λ held. IsEmptyStore held → IsErr here × (IsErrOf here Broken → ⊥)) (s.reads x)
        (λ held never empty. let no = (never empty).0 in absurd (cc no)) resumed.complete_empty;
    stands = resumed.stands;
    unspent = resumed.unspent;
    faults = (λ never. cc never, λ never. cc never);
    outside = resumed.outside;
    cause = λ never. absurd cc;
  }
    where
      before : Answer
      before = Ok (store, rows)

      here : Answer
      here = Ok (store, copies)

  -- the bodies are batches, and these are the rows that they leave
  pub done_resume : {T : Type 0} (x y : S) (shown : T → List (List ℕ)) (store : Store) (found : T)
      (batches : List (List Row)) (between : Table) (rows : Vec Row Global)
      → LogResumed s x y (Ok (store.log, found)) shown
      → SpellBatches batches (shown found) → SameTable (table_of (all_rows batches)) between
      → SameTable between (table_of rows.items) → AreListed rows.items → IsResumed s x y (Ok (store, rows))
  done_resume x y shown store found batches between rows opened spelled first second listed = record {
    rows = found_rows store (s.reads x) (shown found) batches between (table_of rows.items) opened.bodies spelled first
        second;
    listed = listed;
    only = found_only (s.reads x) (shown found) batches between (table_of rows.items) opened.only spelled first second;
    counts = map_told (λ held. HasBodies held (shown found)) (λ held. (others : List (List ℕ)) × HasBodies held others
        × Counts store.log.first store.log.behind others) (s.reads x)
        (λ held has. (shown found, has, opened.counts)) opened.store;
    empty = λ never. absurd cc;
    broken = λ never. absurd cc;
    complete = always_told (λ held. (table : Table) → HasTable held table → (IsErrOf here Empty → ⊥)
        × (IsErrOf here Broken → ⊥)) (s.reads x) (λ held table has. (λ never. cc never, λ never. cc never));
    complete_empty = map_told (λ held. HasBodies held (shown found))
        (λ held. IsEmptyStore held → IsErr here × (IsErrOf here Broken → ⊥)) (s.reads x)
        (λ held has empty. absurd (none_empty held (shown found) empty has)) opened.store;
    stands = opened.stands;
    unspent = opened.unspent;
    faults = (λ never. cc never, λ never. cc never);
    outside = opened.outside;
    cause = λ never. absurd cc;
  }
    where
      here : Answer
      here = Ok (store, rows)
