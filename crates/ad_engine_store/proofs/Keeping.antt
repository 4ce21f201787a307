-- What keeps an engine standing.
use Rattle.std.proofs.Common.{◌≡◌, ℕ, ◌≤◌, List, Option, Some, None, sym, subst}
use Rattle.std.specs.Option.{IfSome}
use Rattle.site_io.specs.Told.{StaysTold}
use Rattle.site_io.specs.Disk.{Images, LeavesEmitted}
use Rattle.gate_log.proofs.Outside.{emit_stands}
use Rattle.row_store.specs.Rows.{HasTable, HoldsTable}
use Rattle.row_store.specs.Table.{Table}
use Rattle.ad_dir_model.specs.Directory.{Directory}
use Rattle.ad_dir_model.specs.Soundness.{IsSound}
use Rattle.ad_rows_write.specs.Rows.{AreRowsOf, IsStoreOf}
use Rattle.ad_engine_store.specs.Standing.{HoldsDir, StandsIn}
use Rattle.ad_engine_store.specs.declared.dir_store.DirStore.{DirStore}
use Rattle.ad_engine_store.proofs.Opening.{store_of}

told_still : {A : Type 0} (P : A → Type 0) (r0 r1 : Option A) → StaysTold r0 r1 → IfSome r0 P → IfSome r1 P
told_still P None None told p = tt
told_still P (Some x) (Some y) told p = subst P (sym told) p
told_still P None (Some y) told p = absurd told
told_still P (Some x) None told p = absurd told

pub emit_stands_still : (engine : DirStore) (r0 r1 : Option Images) (n0 n1 : ℕ) (l0 l1 : ℕ → Images → List ℕ → Type 0)
    (bytes : List ℕ)
    → StandsIn engine r0 n0 l0 → StaysTold r0 r1 → n0 ≤ n1 → LeavesEmitted bytes n0 l0 l1 → StandsIn engine r1 n1 l1
emit_stands_still engine r0 r1 n0 n1 l0 l1 bytes stands told later emits = λ unspent.
    let now = stands unspent in
    record {
      sound = now.sound;
      held = told_still (HoldsDir engine) r0 r1 told now.held;
      unspent = now.unspent;
      store = emit_stands engine.store.log r0 r1 n0 n1 l0 l1 bytes now.store told later emits;
    }

-- ---- a sync

-- after it each crash leaves the directory
pub sync_crash : (engine : DirStore) (r : Option Images) (now : ℕ) (left : ℕ → Images → List ℕ → Type 0)
    → IsSound engine.dir → IfSome r (HoldsDir engine)
    → IfSome r (λ held. (table : Table) → HoldsTable engine.store held table → (images : Images) (out : List ℕ)
    → left now images out → HasTable images table)
    → IfSome r (λ held. (images : Images) (out : List ℕ) → left now images out → IsStoreOf images engine.dir)
sync_crash engine None now left sound holds every = tt
sync_crash engine (Some held) now left sound holds every = λ images out here.
    store_of engine.dir images holds.table holds.rows sound (every holds.table holds.holds images out here)

-- and the engine represents it
pub sync_holds : (engine changed : DirStore) (r0 r1 : Option Images) → StaysTold r0 r1 → engine.dir ≡ changed.dir
    → ((held : Images) (table : Table) → HoldsTable engine.store held table → HoldsTable changed.store held table)
    → IfSome r0 (HoldsDir engine) → IfSome r1 (HoldsDir changed)
sync_holds engine changed r0 r1 told dir kept holds = told_still (HoldsDir changed) r0 r1 told (still r0 holds)
  where
    still : (r : Option Images) → IfSome r (HoldsDir engine) → IfSome r (HoldsDir changed)
    still None holding = tt
    still (Some held) holding = record {
      table = holding.table;
      holds = kept held holding.table holding.holds;
      rows = subst (λ (d : Directory). AreRowsOf d holding.table) dir holding.rows;
    }
