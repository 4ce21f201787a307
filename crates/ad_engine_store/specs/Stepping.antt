-- Edits that are made in the directory and noted for the store, and steps made so.
use Rattle.std.specs.Prelude.{◌≡◌, ℕ, ◌<◌, List, [], ◌++◌, map}
use Rattle.row_store.specs.declared.row.Row.{Row}
use Rattle.ad_dir_objects.specs.declared.edit.Edit.{Edit as EditIn}
use Rattle.ad_dir.specs.Applying.{MayApplyAll}
use Rattle.ad_dir_objects.specs.Seen.{edit_seen}
use Rattle.prop_queue.specs.declared.pending.Pending.{Pending}
use Rattle.ad_dir_model.specs.Directory.{Directory, Edit, with_pending, all_edited}
use Rattle.ad_dir_model.specs.Soundness.{IsSound}
use Rattle.ad_dir_model.specs.Steps.{steps}
use Rattle.ad_rows_write.specs.Batch.{AreRowsOfEdits}
use Rattle.site_io.specs.Outside.{TouchesSlots}
use Rattle.site_io.specs.declared.site.Site.{Ghosts}
use Rattle.ad_engine_store.specs.Bound.{IsBounded}
use Rattle.ad_engine_store.specs.Settling.{AreSteps, LastsAs, LeavesSteps}
use Rattle.ad_engine_store.specs.Standing.{Stands}
use Rattle.ad_engine_store.specs.declared.dir_store.DirStore.{DirStore}

-- ---- what is committed

-- the directory that the edits make
abbrev pub made_by : List EditIn → Directory → Directory
made_by edits dir = all_edited (map edit_seen edits) dir

-- each edit may be applied to what those before it made, and all of them make a sound directory
pub record MayCommit (edits : List EditIn) (dir : Directory) : Type 0 where
  pub may : MayApplyAll dir edits
  pub sound : IsSound (made_by edits dir)

-- ---- how it is made

-- the rows of the edits are noted after those of earlier ones
abbrev pub Notes : List Edit → List Row → List Row → Type 0
Notes edits old new = (before : List Edit) → AreRowsOfEdits before old → AreRowsOfEdits (before ++ edits) new

-- the edits were made in this order, and noted
pub record Makes (edits : List Edit) (old new : Directory) (rows noted : List Row) : Type 0 where
  pub made : all_edited edits old ≡ new
  pub rows_of : Notes edits rows noted

-- steps are asked for, and something is pending
pub record IsDue (most : ℕ) (dir : Directory) : Type 0 where
  pub some : most ≡ 0 → ⊥
  pub pends : dir.pending ≡ [] → ⊥

-- So many steps were made and noted, each while something was pending; the directory is sound.
pub record MakesSteps (n : ℕ) (old new : Directory) (rows noted : List Row) : Type 0 where
  pub edits : List Edit
  pub makes : Makes edits old new rows noted
  pub stepped : new ≡ steps n old
  pub sound : IsSound new
  pub not_before : (m : ℕ) → m < n → (steps m old).pending ≡ [] → ⊥

-- The same over a pending list that is kept beside the directory: the edits leave the directory's own list, and
-- were made and noted.
pub record MakesBeside (n : ℕ) (queue left : List Pending) (old new : Directory) (rows noted : List Row) : Type 0 where
  pub edits : List Edit
  pub makes : Makes edits old new rows noted
  pub stepped : with_pending left new ≡ steps n (with_pending queue old)
  pub sound : IsSound (with_pending left new)
  pub not_before : (m : ℕ) → m < n → (steps m (with_pending queue old)).pending ≡ [] → ⊥

-- these edits were made, and those that are left may be
pub record IsMaking (all rest : List EditIn) (old new : Directory) (rows noted : List Row) : Type 0 where
  pub done : List EditIn
  pub parts : all ≡ done ++ rest
  pub makes : Makes (map edit_seen done) old new rows noted
  pub may : MayApplyAll new rest

-- so many steps were made and committed since a call began, and the engine still stands
pub record IsSettling {S : Type 0} (site : Ghosts S) (first engine : DirStore) (old now : S) (total : ℕ) : Type 0 where
  pub stands : Stands engine (site.reads now) (site.now now) (site.left now)
  pub are : AreSteps total first.dir engine.dir
  pub lasts : 0 < total → LastsAs site engine.dir old now
  pub none : total ≡ 0 → now ≡ old
  pub bound : 0 < total → IsBounded engine.store (site.reads now)
  pub moments : LeavesSteps first.dir (site.reads old) (site.now old) (site.now now) (site.left old) (site.left now)
  pub tokens_stay : engine.tokens ≡ first.tokens
  pub unspent : engine.spent ≡ first.spent
  pub outside : TouchesSlots site old now
