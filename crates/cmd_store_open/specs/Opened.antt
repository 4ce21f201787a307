-- What a store represents as a command begins, and why one isn't opened.
use Rattle.std.specs.Prelude.{◌≡◌, ℕ, ◌<◌, ◌≤◌, List, false, IfSome}
use Rattle.site_io.specs.Disk.{Images}
use Rattle.site_io.specs.declared.site.Site.{Ghosts as SiteGhosts}
use Rattle.gate_log.specs.Moments.{Began}
use Rattle.ad_dir_model.specs.Directory.{Directory}
use Rattle.ad_rows_write.specs.Rows.{IsStoreOf}
use Rattle.ad_engine_store.specs.Opening.{Refuses, is_outside}
use Rattle.ad_engine_store.specs.declared.fault.OpenFault.{OpenFault}
use Rattle.cmd_call.specs.Store.{Emits}
use Rattle.cmd_store_open.specs.Lines.{store_line}

-- the slots represent a directory, or for none
abbrev pub IsDirStore : Images → Type 0
IsDirStore held = (dir : Directory) × IsStoreOf held dir

abbrev pub NoDirStore : Images → Type 0
NoDirStore held = IsDirStore held → ⊥

module _ {S : Type 0} (site : SiteGhosts S) where
  -- each crash now leaves a store of the directory
  abbrev pub EachStandsFor : Directory → S → Type 0
  EachStandsFor dir x = (images : Images) (out : List ℕ) → site.left x (site.now x) images out → IsStoreOf images dir

  -- A crash leaves what it could leave as the call began, and nothing was emitted since.
  pub record IsAsBegun (old : S) (images : Images) (text : List ℕ) : Type 0 where
    pub left : Began (site.now old) (site.left old) images
    pub quiet : IfSome (site.emitted old) (λ said. text ≡ said)

  -- It does so at each moment before this one.
  abbrev pub AllBegun : ℕ → S → S → Type 0
  AllBegun synced old new = (t : ℕ) (images : Images) (text : List ℕ) → site.now old ≤ t → t < synced
      → site.left new t images text → IsAsBegun old images text

  -- What a crash leaves during a call that syncs the slots before anything is emitted: up to the sync what it could
  -- leave as the call began, and from then on what meets P, of the crash states and of all that was emitted. Where
  -- there was no sync its moment never came.
  pub record LeavesSynced (P : Images → List ℕ → Type 0) (old new : S) : Type 0 where
    pub synced : ℕ
    pub before : AllBegun synced old new
    pub behind : (t : ℕ) (images : Images) (text : List ℕ) → synced ≤ t → site.left new t images text → P images text

  -- The slots were not opened, and the line that says why was emitted.
  pub record IsNoStore (old new : S) : Type 0 where
    pub fault : OpenFault
    pub inside : is_outside fault ≡ false
    pub store : IfSome (site.reads old) (λ held. Refuses held fault)
    pub line : Emits (site.emitted old) (site.emitted new) (store_line fault)
