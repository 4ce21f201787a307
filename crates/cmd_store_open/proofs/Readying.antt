-- How a store that was opened is made ready.
use Rattle.std.proofs.Common.{◌≡◌, ⊎_elim, suc, Option, Some, None, sym, subst, arith}
use Rattle.std.specs.Option.{IfSome}
use Rattle.site_io.specs.Told.{StaysTold}
use Rattle.site_io.specs.Disk.{Images}
use Rattle.site_io.specs.Outside.{OnlyLooks, TouchesSlots}
use Rattle.site_io.specs.declared.site.Site.{Ghosts as SiteGhosts}
use Rattle.gate_log.proofs.Outside.{looks_touch, touches_on}
use Rattle.ad_dir_model.specs.Directory.{Directory}
use Rattle.ad_rows_write.specs.Rows.{IsStoreOf}
use Rattle.ad_engine_store.specs.Serving.{LeavesDir}
use Rattle.cmd_call.specs.Call.{IsTold}
use Rattle.cmd_call.specs.Store.{KeepsSlots}
use Rattle.cmd_call.proofs.Moments.{IsLawful, told_map, looks_keep}
use Rattle.cmd_store_open.specs.Opened.{EachStandsFor}
use Rattle.cmd_store_open.specs.Ready.{IsNotOne, IsOpening, IsReady}
use Rattle.cmd_store_open.proofs.Begun.{begun_looked, begun_on}
use Rattle.ad_dir_model.specs.Soundness.{IsSound}
use Rattle.ad_engine_store.specs.Standing.{HoldsDir}
use Rattle.ad_engine_store.specs.declared.dir_store.DirStore.{DirStore}
use Rattle.ad_engine_store.proofs.Opening.{holds_has, store_of}

module _ {S : Type 0} (site : SiteGhosts S) where
  -- the sync failed
  pub opening_failed : IsLawful site → (dir : Directory) (x y : S) → OnlyLooks site x y
      → IfSome (site.reads x) (λ held. IsStoreOf held dir)
      → IsOpening site dir (suc (site.now y)) x y
  opening_failed law dir x y looks store = record {
    store = store;
    touches = looks_touch site x y looks;
    later = omega (arith, looks.moments.later);
    begun = begun_looked site law x y (suc (site.now y)) looks;
    lasts = told_map _ _ (site.reads x) (λ held is t images text ge left.
        absurd (omega (arith, ge, law.until y t images text left))) store;
    kept = λ _. looks_keep site x y looks;
  }

  both_told : (P Q R : Images → Type 0) (r0 r1 : Option Images) → StaysTold r0 r1
      → ((held : Images) → P held → Q held → R held) → IfSome r1 P → IfSome r1 Q → IfSome r0 R
  both_told P Q R None None same f p q = tt
  both_told P Q R (Some a) (Some b) same f p q = f a (subst P same p) (subst Q same q)
  both_told P Q R None (Some b) same f p q = absurd same
  both_told P Q R (Some a) None same f p q = absurd same

  -- a store that isn't of version 1 wasn't touched
  kept_still : (x y z : S) → OnlyLooks site x y → (r0 r1 : Option Images) → StaysTold r0 r1
      → IfSome r1 (λ held. (IsNotOne held) → z ≡ y)
      → IsTold IsNotOne r0 → KeepsSlots site x z
  kept_still x y z looks None r1 same still told = absurd told
  kept_still x y z looks (Some a) None same still told = absurd same
  kept_still x y z looks (Some a) (Some b) same still told =
      subst (KeepsSlots site x) (sym (still (subst IsNotOne (sym same) told))) (looks_keep site x y looks)

  -- it went through, and after it the store was migrated, or that failed
  pub opening_on : IsLawful site → (dir : Directory) (x y z : S) → OnlyLooks site x y
      → IfSome (site.reads x) (λ held. IsStoreOf held dir)
      → IfSome (site.reads y) (λ held. EachStandsFor site dir y) → TouchesSlots site y z
      → LeavesDir dir (site.reads y) (site.now y) (site.now z) (site.left y) (site.left z)
      → IfSome (site.reads y) (λ held. IsNotOne held → z ≡ y) → IsOpening site dir (site.now y) x z
  opening_on law dir x y z looks store each touches leaves still = record {
    store = store;
    touches = touches_on site x y z (looks_touch site x y looks) touches;
    later = looks.moments.later;
    begun = begun_on site x y z (site.now y) (omega arith) touches.moments
        (begun_looked site law x y (site.now y) looks);
    lasts = both_told _ _ _ (site.reads x) (site.reads y) looks.held
        (λ held all by t images text ge left. ⊎_elim (λ began. all images began.0 began.1) (λ is. is)
        (by.each t images text ge left)) each leaves;
    kept = kept_still x y z looks (site.reads x) (site.reads y) looks.held still;
  }

  pub ready_on : IsLawful site → (dir : Directory) (x y z : S) → OnlyLooks site x y
      → IfSome (site.reads x) (λ held. IsStoreOf held dir)
      → IfSome (site.reads y) (λ held. EachStandsFor site dir y) → TouchesSlots site y z
      → LeavesDir dir (site.reads y) (site.now y) (site.now z) (site.left y) (site.left z)
      → IfSome (site.reads y) (λ held. IsNotOne held → z ≡ y) → IsReady site dir x z
  ready_on law dir x y z looks store each touches leaves still = record {
    synced = site.now y;
    come = touches.moments.later;
    opening = opening_on law dir x y z looks store each touches leaves still;
  }

  -- each crash now leaves the directory
  pub each_ready : (dir : Directory) (x y : S) → IsReady site dir x y
      → IfSome (site.reads x) (λ held. EachStandsFor site dir y)
  each_ready dir x y ready = told_map _ _ (site.reads x)
      (λ held by images text left. by (site.now y) images text ready.come left) ready.opening.lasts

  -- the store represents the directory after the frames
  pub stands_for : (engine : DirStore) (dir : Directory) (r : Option Images) → engine.dir ≡ dir
      → IfSome r (HoldsDir engine) → IsSound engine.dir → IfSome r (λ held. IsStoreOf held dir)
  stands_for engine dir r is holds sound = told_map (HoldsDir engine) (λ held. IsStoreOf held dir) r
      (λ held has. subst (IsStoreOf held) is
      (store_of engine.dir held has.table has.rows sound (holds_has engine.store held has.table has.holds))) holds
