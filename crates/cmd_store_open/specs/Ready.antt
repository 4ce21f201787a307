-- How `adsd serve` and `adsd settle` begin: the slots are synced, and a store of version 1 becomes one of version 2.
use Rattle.std.specs.Prelude.{◌≡◌, ◌⊎◌, ℕ, ◌≤◌, List, IfSome}
use Rattle.site_io.specs.Counts.{HasRisen}
use Rattle.site_io.specs.Disk.{Images}
use Rattle.site_io.specs.Outside.{OnlyLooks, TouchesSlots}
use Rattle.site_io.specs.declared.site.Site.{Ghosts as SiteGhosts}
use Rattle.gate_log.specs.Store.{IsOne}
use Rattle.ad_dir_model.specs.Directory.{Directory}
use Rattle.ad_rows_write.specs.Rows.{IsStoreOf}
use Rattle.cmd_call.specs.declared.outcome.Outcome.{Outcome}
use Rattle.cmd_call.specs.declared.outcome.Outcome.TheVariants.{SiteFailed, NoMemory}
use Rattle.cmd_call.specs.Call.{IsTold}
use Rattle.cmd_call.specs.Store.{KeepsSlots}
use Rattle.cmd_store_open.specs.Opened.{AllBegun}

-- slots of a store that isn't of version 1
abbrev pub IsNotOne : Images → Type 0
IsNotOne held = IsOne held.a → ⊥

module _ {S : Type 0} (site : SiteGhosts S) where
  -- The slots were opened as those of a directory. Up to a moment a crash leaves what it could leave then, and from
  -- it on the directory; nothing was emitted; and a store that isn't of version 1 is as it was.
  pub record IsOpening (dir : Directory) (synced : ℕ) (old new : S) : Type 0 where
    pub store : IfSome (site.reads old) (λ held. IsStoreOf held dir)
    pub touches : TouchesSlots site old new
    pub later : site.now old ≤ synced
    pub begun : AllBegun site synced old new
    pub lasts : IfSome (site.reads old) (λ held. (t : ℕ) (images : Images) (text : List ℕ) → synced ≤ t
        → site.left new t images text → IsStoreOf images dir)
    pub kept : IsTold IsNotOne (site.reads old) → KeepsSlots site old new

  -- and that moment has come
  pub record IsReady (dir : Directory) (old new : S) : Type 0 where
    pub synced : ℕ
    pub come : synced ≤ site.now new
    pub opening : IsOpening dir synced old new

  -- or the site failed, or memory ran out
  pub record IsUnready (dir : Directory) (old new : S) (outcome : Outcome) : Type 0 where
    pub synced : ℕ
    pub opening : IsOpening dir synced old new
    pub cause : outcome ≡ SiteFailed → HasRisen (site.slot_faults old) (site.slot_faults new)
    pub only : (outcome ≡ SiteFailed) ⊎ (outcome ≡ NoMemory)

  -- the same since any earlier moment from which on the slots, which represented the directory, were only looked at
  abbrev pub IsReadySince : Directory → S → S → Type 0
  IsReadySince dir opened new = (old : S) → OnlyLooks site old opened → IfSome (site.reads old)
      (λ held. IsStoreOf held dir) → IsReady dir old new

  abbrev pub IsUnreadySince : Directory → S → S → Outcome → Type 0
  IsUnreadySince dir opened new outcome = (old : S) → OnlyLooks site old opened → IfSome (site.reads old)
      (λ held. IsStoreOf held dir)
      → IsUnready dir old new outcome
