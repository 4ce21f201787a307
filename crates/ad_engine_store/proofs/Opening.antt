-- Making and opening stores of directories, from what the store and its rows say.
use Rattle.std.proofs.Common.{◌≡◌, ◌∙◌, ◌⊎◌, inl, inr, ℕ, ◌<◌, ◌≤◌, List, length, Option, Some, None, Result, Ok, Err}
use Rattle.std.proofs.Common.{refl, sym, ap, subst, true, false, arith}
use Rattle.std.specs.Option.{IfSome}
use Rattle.std.specs.Result.{IsErr, IsErrOf}
use Rattle.site_io.specs.Counts.{HasRisen}
use Rattle.site_io.specs.Disk.{Images, LeavesSame}
use Rattle.site_io.specs.Told.{StaysTold}
use Rattle.site_io.specs.Outside.{OnlyLooks, TouchesSlots}
use Rattle.site_io.specs.declared.site.Site.{Ghosts}
use Rattle.gate_log.proofs.Outside.{touches_not}
use Rattle.gate_log.specs.Store.{IsEmptyStore}
use Rattle.gate_log.proofs.Images.{rests_has}
use Rattle.row_store.specs.declared.store.Store.{Store}
use Rattle.row_store.specs.declared.fault.StoreFault.{StoreFault}
use Rattle.row_store.specs.declared.fault.StoreFault.TheVariants as store
use Rattle.row_store.specs.Created.{IsCreated}
use Rattle.row_store.specs.Rows.{HasTable, HoldsTable, IsBrokenTable}
use Rattle.row_store.specs.declared.row.Row.{Row as StoredRow}
use Rattle.row_store.specs.Table.{Table, table_of}
use Rattle.row_store.specs.Faults.{OnlyTaken as OnlyStoreTaken}
use Rattle.ad_dir_model.specs.Directory.{Directory}
use Rattle.ad_dir_model.specs.Soundness.{IsSound}
use Rattle.ad_rows.specs.Form.{AreRight, IsLeastBad}
use Rattle.ad_rows.specs.Refusal.{IsRefusal, StandsForNone, IsUnsound, is_memory}
use Rattle.ad_rows_write.specs.Rows.{AreRowsOf, IsStoreOf}
use Rattle.ad_bytes.specs.Reading.{GivesUnless}
use Rattle.ad_rows.specs.declared.fault.RowsFault.{RowsFault}
use Rattle.ad_rows.specs.declared.fault.RowsFault.TheVariants as rows
use Rattle.ad_rows.proofs.Once.{one_table}
use Rattle.ad_engine_store.specs.Faults.{IsCreating, IsOfCreate}
use Rattle.ad_engine_store.specs.Standing.{HoldsDir, HoldsRows}
use Rattle.ad_engine_store.specs.Opening.{Refuses, is_outside, IsOpenedAs, AnswersFor, IsNumber, directory_in, of_store}
use Rattle.ad_engine_store.specs.Opening.{of_rows}
use Rattle.ad_engine_store.specs.declared.fault.OpenFault.{OpenFault}
use Rattle.ad_engine_store.specs.declared.fault.OpenFault.TheVariants.{Taken, Row, Memory}
use Rattle.ad_engine_store.specs.declared.fault.OpenFault.TheVariants as opening
use Rattle.ad_engine_store.specs.declared.dir_store.DirStore.{DirStore}

pub holds_has : (store : Store) (held : Images) (table : Table) → HoldsTable store held table → HasTable held table
holds_has store held table holds = record {
  bodies = holds.bodies;
  has = rests_has store.log.version store.log.live store.log.generation store.log.end store.log.other_open held
      holds.bodies holds.rests.rests;
  left = holds.left;
}

pub store_of : (dir : Directory) (images : Images) (table : Table) → AreRowsOf dir table → IsSound dir
    → HasTable images table → IsStoreOf images dir
store_of dir images table rows sound has = record { table = table; has = has; rows = rows; sound = sound }

-- ---- what is told of a store, of its one answer

err_is : (T : Type 0) (fault other : StoreFault) → fault ≡ other → ◌≡◌ {A = Result T StoreFault} (Err fault) (Err other)
err_is T fault other is = ap (λ (f : StoreFault). Err f) is

pub told_full : (T : Type 0) (r : Option Images) (fault : StoreFault)
    → IfSome r (λ held. (table : Table) → HasTable held table → (IsErrOf {T = T} (Err fault) store.Empty → ⊥)
    × (IsErrOf {T = T} (Err fault) store.Broken → ⊥))
    → IfSome r (λ held. (table : Table) → HasTable held table → (fault ≡ store.Empty → ⊥) × (fault ≡ store.Broken → ⊥))
told_full T None fault said = tt
told_full T (Some held) fault said = λ table has. (
  λ is. (said table has).0 (err_is T fault store.Empty is),
  λ is.
      (said table has).1 (err_is T fault store.Broken is),
)

pub told_none : (T : Type 0) (r : Option Images) (fault : StoreFault)
    → IfSome r (λ held. IsEmptyStore held → IsErr {T = T} {E = StoreFault} (Err fault)
    × (IsErrOf {T = T} (Err fault) store.Broken → ⊥))
    → IfSome r (λ held. IsEmptyStore held → fault ≡ store.Broken → ⊥)
told_none T None fault said = tt
told_none T (Some held) fault said = λ empty is. (said empty).1 (err_is T fault store.Broken is)

pub told_not_empty : (T : Type 0) (x : T) (r : Option Images)
    → IfSome r (λ held. IsEmptyStore held → IsErr {T = T} {E = StoreFault} (Ok x)
    × (IsErrOf {T = T} (Ok x) store.Broken → ⊥))
    → IfSome r (λ held. IsEmptyStore held → ⊥)
told_not_empty T x None said = tt
told_not_empty T x (Some held) said = λ empty. let no = (said empty).0 in absurd cc

-- ---- the store wasn't opened

-- what the store says of the slots where it answers a fault
pub record StoreSays (held : Images) (fault : StoreFault) : Type 0 where
  pub empty : fault ≡ store.Empty → IsEmptyStore held
  pub broken : fault ≡ store.Broken → IsBrokenTable held
  pub full : (table : Table) → HasTable held table → (fault ≡ store.Empty → ⊥) × (fault ≡ store.Broken → ⊥)
  pub none : IsEmptyStore held → fault ≡ store.Broken → ⊥

-- the site failed, or memory ran out
outside_answers : (held : Images) (fault : StoreFault) → is_outside (of_store fault) ≡ true
    → IsNumber (Err (of_store fault)) → AnswersFor held (Err (of_store fault))
outside_answers held fault is number = record {
  empty = λ _. outside;
  broken = λ _. outside;
  row = λ _ _ _ _ _. outside;
  unsound = λ _ _ _ _. number;
}
  where
    outside : {P : Type 0} → is_outside (of_store fault) ≡ false → P
    outside never = absurd (let clash : true ≡ false = sym is ∙ never in cc clash)

refused_by : (held : Images) (fault : StoreFault) → (fault ≡ store.Taken → ⊥) → StoreSays held fault
    → AnswersFor held (Err (of_store fault))
refused_by held store.Taken never says = absurd (never refl)
refused_by held store.Empty never says = record {
  empty = λ _ _. refl;
  broken = λ broken _. absurd (broken.full (says.empty refl));
  row = λ table k n has least. absurd ((says.full table has).0 refl);
  unsound = λ table has right never_one. absurd ((says.full table has).0 refl);
}
refused_by held store.Broken never says = record {
  empty = λ empty _. absurd (says.none empty refl);
  broken = λ _ _. refl;
  row = λ table k n has least. absurd ((says.full table has).1 refl);
  unsound = λ table has right never_one. absurd ((says.full table has).1 refl);
}
refused_by held store.Spent never says = outside_answers held store.Spent refl tt
refused_by held store.Site never says = outside_answers held store.Site refl tt
refused_by held store.Memory never says = outside_answers held store.Memory refl tt

pub store_refused : (r : Option Images) (fault : StoreFault) (e : OpenFault) (result : Result DirStore OpenFault)
    → result ≡ Err e → e ≡ of_store fault
    → (fault ≡ store.Taken → ⊥)
    → (fault ≡ store.Empty → IfSome r IsEmptyStore) → (fault ≡ store.Broken → IfSome r IsBrokenTable)
    → IfSome r (λ held. (table : Table) → HasTable held table → (fault ≡ store.Empty → ⊥) × (fault ≡ store.Broken → ⊥))
    → IfSome r (λ held. IsEmptyStore held → fault ≡ store.Broken → ⊥)
    → IfSome r (λ held. AnswersFor held result)
store_refused None fault e result is made never empty broken full none = tt
store_refused (Some held) fault e result is made never empty broken full none =
    subst (AnswersFor held) (ap (λ (f : OpenFault). Err f) (sym made) ∙ sym is)
    (refused_by held fault never (record { empty = empty; broken = broken; full = full; none = none }))

-- ---- the rows are those of no sound directory

refuses_rows : (held : Images) (table : Table) (fault : RowsFault) → HasTable held table → IsRefusal table fault
    → is_outside (of_rows fault) ≡ false → Refuses held (of_rows fault)
refuses_rows held table (rows.Row kind number) has told inside = (table, has, told)
refuses_rows held table (rows.Unsound number) has told inside = (table, has, told)
refuses_rows held table rows.Memory has told inside = absurd cc

pub rows_opened : (r : Option Images) (the_store : Store) (table : Table) (fault : RowsFault) (e : OpenFault)
    (result : Result DirStore OpenFault)
    → result ≡ Err e → e ≡ of_rows fault → IsRefusal table fault
    → IfSome r (λ held. HoldsTable the_store held table) → IfSome r (λ held. IsOpenedAs held result)
rows_opened None the_store table fault e result is made told holds = tt
rows_opened (Some held) the_store table fault e result is made told holds =
    subst (IsOpenedAs held) (ap (λ (f : OpenFault). Err f) (sym made) ∙ sym is)
    (refuses_rows held table fault (holds_has the_store held table holds) told)

-- what is said of rows is said of the slots
pub record RowsSay (table : Table) (result : Result DirStore OpenFault) : Type 0 where
  pub row : (k n : ℕ) → IsLeastBad table k n → GivesUnless is_outside directory_in result (Err (Row k n))
  pub unsound : AreRight table → StandsForNone table → IsNumber result

-- slots that have a table are neither empty nor broken, whatever is answered
pub has_rows : (r : Option Images) (the_store : Store) (table : Table) (result : Result DirStore OpenFault)
    → RowsSay table result
    → IfSome r (λ held. HoldsTable the_store held table) → IfSome r (λ held. IsEmptyStore held → ⊥)
    → IfSome r (λ held. AnswersFor held result)
has_rows None the_store table result say holds full = tt
has_rows (Some held) the_store table result say holds full =
    let has = holds_has the_store held table holds in
    record {
      empty = λ empty. absurd (full empty);
      broken = λ broken. absurd (broken.none table has);
      row = λ other k n is least. say.row k n
          (subst (λ (t : Table). IsLeastBad t k n) (one_table held table other has is) least);
      unsound = λ other is right never. say.unsound (subst AreRight (one_table held table other has is) right)
          (subst StandsForNone (one_table held table other has is) never);
    }

-- the rows weren't read as a directory
abbrev told_rows : Result Directory RowsFault → Result Directory OpenFault
told_rows (Ok dir) = Ok dir
told_rows (Err fault) = Err (of_rows fault)

pub rows_say : (table : Table) (fault : RowsFault) (e : OpenFault) (result : Result DirStore OpenFault) → result ≡ Err e
    → e ≡ of_rows fault
    → ((k n : ℕ) → IsLeastBad table k n → is_memory fault ≡ false → ◌≡◌ {A = Result Directory RowsFault}
    (Err (rows.Row k n)) (Err fault))
    → (AreRight table → StandsForNone table → IsUnsound (Err fault)) → RowsSay table result
rows_say table fault e result is made row unsound =
    subst (RowsSay table) (ap (λ (f : OpenFault). Err f) (sym made) ∙ sym is) (by fault row unsound)
  where
    by : (f : RowsFault) → ((k n : ℕ) → IsLeastBad table k n → is_memory f ≡ false
        → ◌≡◌ {A = Result Directory RowsFault} (Err (rows.Row k n)) (Err f))
        → (AreRight table → StandsForNone table → IsUnsound (Err f)) → RowsSay table (Err (of_rows f))
    by (rows.Row kt nt) row unsound = record {
      row = λ k n least _. ap told_rows (row k n least refl);
      unsound
          = unsound;
    }
    by (rows.Unsound m) row unsound = record {
      row = λ k n least _. ap told_rows (row k n least refl);
      unsound
          = unsound;
    }
    by rows.Memory row unsound = record { row = λ k n least never. absurd cc; unsound = unsound }

-- they were
rows_read : (table : Table) (dir : Directory) (engine : DirStore)
    → ((k n : ℕ) → IsLeastBad table k n → ◌≡◌ {A = Result Directory RowsFault} (Err (rows.Row k n)) (Ok dir))
    → (AreRight table → StandsForNone table → ⊥) → RowsSay table (Ok engine)
rows_read table dir engine row unsound = record {
  row = λ k n least. absurd (let clash : ◌≡◌ {A = Result Directory RowsFault} (Err (rows.Row k n)) (Ok dir)
      = row k n least in cc clash);
  unsound = unsound;
}

pub has_read : (r : Option Images) (the_store : Store) (given : List StoredRow) (dir : Directory) (engine : DirStore)
    → ((k n : ℕ) → IsLeastBad (table_of given) k n → ◌≡◌ {A = Result Directory RowsFault} (Err (rows.Row k n))
    (Ok dir)) → (AreRight (table_of given) → StandsForNone (table_of given) → ⊥)
    → IfSome r (λ held. HoldsTable the_store held (table_of given)) → IfSome r (λ held. IsEmptyStore held → ⊥)
    → IfSome r (λ held. AnswersFor held (Ok engine))
has_read r the_store given dir engine row unsound holds full = has_rows r the_store (table_of given) (Ok engine)
    (rows_read (table_of given) dir engine row unsound) holds full

-- ---- the store was opened

pub opened : (r : Option Images) (the_store : Store) (table : Table) (dir : Directory)
    → IfSome r (λ held. HoldsTable the_store held table)
    → AreRowsOf dir table → IsSound dir → IfSome r (λ held. IsStoreOf held dir)
opened None the_store table dir holds rows sound = tt
opened (Some held) the_store table dir holds rows sound = store_of dir held table rows sound
    (holds_has the_store held table holds)

pub holds_rows : (r : Option Images) (the_store : Store) (table : Table) (dir : Directory)
    → IfSome r (λ held. HoldsTable the_store held table)
    → AreRowsOf dir table → IfSome r (HoldsRows the_store dir)
holds_rows None the_store table dir holds rows = tt
holds_rows (Some held) the_store table dir holds rows = record { table = table; holds = holds; rows = rows }

pub dir_held : (engine : DirStore) (r : Option Images) → IfSome r (HoldsRows engine.store engine.dir)
    → IfSome r (HoldsDir engine)
dir_held engine None holds = tt
dir_held engine (Some held) holds = record { table = holds.table; holds = holds.holds; rows = holds.rows }

-- what is told of the slots after the opening
pub holds_dir : (engine : DirStore) (r0 r1 : Option Images) (table : Table) → StaysTold r0 r1
    → IfSome r0 (λ held. HoldsTable engine.store held table)
    → AreRowsOf engine.dir table → IfSome r1 (HoldsDir engine)
holds_dir engine None None table same holds rows = tt
holds_dir engine (Some x) (Some y) table same holds rows = record {
  table = table;
  holds = subst
      (λ (held : Images). HoldsTable engine.store held table) (sym same) holds;
  rows = rows;
}
holds_dir engine None (Some y) table same holds rows = absurd same
holds_dir engine (Some x) None table same holds rows = absurd same

-- ---- before anything was looked at

pub memory_opened : (r : Option Images) (e : OpenFault) (result : Result DirStore OpenFault) → result ≡ Err e → e ≡ Memory
    → IfSome r (λ held. IsOpenedAs held result)
memory_opened None e result is memory = tt
memory_opened (Some held) e result is memory =
    subst (IsOpenedAs held) (ap (λ (f : OpenFault). Err f) (sym memory) ∙ sym is) (λ no. absurd cc)

pub memory_answers : (r : Option Images) (e : OpenFault) (result : Result DirStore OpenFault) → result ≡ Err e → e
    ≡ Memory
    → IfSome r (λ held. AnswersFor held result)
memory_answers None e result is memory = tt
memory_answers (Some held) e result is memory =
    subst (AnswersFor held) (ap (λ (f : OpenFault). Err f) (sym memory) ∙ sym is)
    (outside_answers held store.Memory refl tt)

told_same : (r : Option Images) → StaysTold r r
told_same None = tt
told_same (Some held) = refl

pub looks_not : {S : Type 0} (site : Ghosts S) (x : S)
    → ((t : ℕ) (images : Images) (out : List ℕ) → site.left x t images out → t ≤ site.now x)
    → OnlyLooks site x x
looks_not site x until =
    let still = touches_not site x until in
    record {
      held = told_same (site.reads x);
      output = still.output;
      moments = still.moments;
      images = λ t images out later here.
          let up = until t images out here in
          let same : t ≡ site.now x = omega (arith, later, up) in
          subst (λ (k : ℕ). site.left x k images out) same here;
      never_falls = still.never_falls;
      out_faults = still.out_faults;
    }

-- ---- the store wasn't made

open_same : (U : Type 0) (a b : OpenFault) → ◌≡◌ {A = Result U OpenFault} (Err a) (Err b) → a ≡ b
open_same U a b e = cc

-- a fault is the same one in an answer of another kind
fault_as : (T U : Type 0) (a b : OpenFault) → ◌≡◌ {A = Result T OpenFault} (Err a) (Err b)
    → ◌≡◌ {A = Result U OpenFault} (Err a) (Err b)
fault_as T U a b e = ap (λ (fault : OpenFault). Err fault) (open_same T a b e)

pub unwritten_as : (T U P : Type 0) (fault : OpenFault)
    → (IsErrOf {T = T} (Err fault) Taken ⊎ IsErrOf {T = T} (Err fault) Memory → P)
    → IsErrOf {T = U} (Err fault) Taken ⊎ IsErrOf {T = U} (Err fault) Memory → P
unwritten_as T U P fault said may = said (known may)
  where
    known : IsErrOf {T = U} (Err fault) Taken ⊎ IsErrOf {T = U} (Err fault) Memory → IsErrOf {T = T} (Err fault) Taken
        ⊎ IsErrOf {T = T} (Err fault) Memory
    known (inl t) = inl (fault_as U T fault Taken t)
    known (inr m) = inr (fault_as U T fault Memory m)

pub one_as : (T U P : Type 0) (fault kind : OpenFault) → (IsErrOf {T = T} (Err fault) kind → P)
    → IsErrOf {T = U} (Err fault) kind → P
one_as T U P fault kind said is = said (fault_as U T fault kind is)

taken_of : (fault : StoreFault) → of_store fault ≡ Taken → fault ≡ store.Taken
taken_of store.Taken is = refl
taken_of store.Empty is = absurd cc
taken_of store.Broken is = absurd cc
taken_of store.Spent is = absurd cc
taken_of store.Site is = absurd cc
taken_of store.Memory is = absurd cc

memory_of : (fault : StoreFault) → of_store fault ≡ Memory → fault ≡ store.Memory
memory_of store.Taken is = absurd cc
memory_of store.Empty is = absurd cc
memory_of store.Broken is = absurd cc
memory_of store.Spent is = absurd cc
memory_of store.Site is = absurd cc
memory_of store.Memory is = refl

of_create : (T : Type 0) (fault : StoreFault) → OnlyStoreTaken {T = T} (Err fault) → IsOfCreate (of_store fault)
of_create T store.Taken only = tt
of_create T store.Empty only = absurd (only.0 refl)
of_create T store.Broken only = absurd (only.1 refl)
of_create T store.Spent only = tt
of_create T store.Site only = tt
of_create T store.Memory only = tt

site_of : (T : Type 0) (fault : StoreFault) → OnlyStoreTaken {T = T} (Err fault) → of_store fault ≡ opening.Site
    → fault ≡ store.Site
site_of T store.Taken only is = absurd cc
site_of T store.Empty only is = absurd cc
site_of T store.Broken only is = absurd cc
site_of T store.Spent only is = absurd (only.2 refl)
site_of T store.Site only is = refl
site_of T store.Memory only is = absurd cc

-- the store refused
pub refused_creating : {S : Type 0} (U : Type 0) (site : Ghosts S) (old new : S) (written : List StoredRow)
    (fault : StoreFault) (e : OpenFault) (result : Result U OpenFault) → result ≡ Err e → e ≡ of_store fault
    → IsCreated site old new written (Err fault) → IsCreating site old new result
refused_creating U site old new written fault e result is e_is made =
    subst (λ (r : Result U OpenFault). IsCreating site old new r) (sym (is ∙ ap (λ (f : OpenFault). Err f) e_is))
    (record {
      taken = λ t. made.taken (err_is Store fault store.Taken (taken_of fault (open_same U (of_store fault) Taken t)));
      unwritten = λ may. made.unwritten (known may);
      faults = of_create Store fault made.faults;
      outside = made.outside;
      cause = λ s. made.cause (err_is Store fault store.Site
          (site_of Store fault made.faults (open_same U (of_store fault) opening.Site s)));
    })
  where
    known : IsErrOf {T = U} (Err (of_store fault)) Taken ⊎ IsErrOf {T = U} (Err (of_store fault)) Memory
        → IsErrOf {T = Store} (Err fault) store.Taken ⊎ IsErrOf {T = Store} (Err fault) store.Memory
    known (inl t) = inl (err_is Store fault store.Taken (taken_of fault (open_same U (of_store fault) Taken t)))
    known (inr m) = inr (err_is Store fault store.Memory (memory_of fault (open_same U (of_store fault) Memory m)))

-- memory ran out before the site was touched
pub memory_creating : {S : Type 0} (U : Type 0) (site : Ghosts S) (x : S)
    → ((t : ℕ) (images : Images) (out : List ℕ) → site.left x t images out → t ≤ site.now x)
    → (e : OpenFault) (result : Result U OpenFault) → result ≡ Err e → e ≡ Memory
    → IsCreating site x x result
memory_creating U site x until e result is e_is =
    subst (λ (r : Result U OpenFault). IsCreating site x x r) (sym (is ∙ ap (λ (f : OpenFault). Err f) e_is)) (record {
      taken = λ t. absurd cc;
      unwritten = λ _. let still = looks_not site x until in (still.held, still.images);
      faults = tt;
      outside = touches_not site x until;
      cause = λ s. absurd cc;
    })
