-- What `adsd check` does.
use Rattle.std.specs.Prelude.{◌≡◌, ◌⊎◌, ℕ, List, ◌++◌, length, codes, IfSome}
use Rattle.site_io.specs.Disk.{Images}
use Rattle.site_io.specs.Told.{StaysTold}
use Rattle.site_io.specs.declared.site.Site.{Ghosts as SiteGhosts}
use Rattle.ad_dir_model.specs.Directory.{Directory}
use Rattle.ad_dir.specs.Listing.{descriptor_count}
use Rattle.ad_rows_write.specs.Rows.{IsStoreOf}
use Rattle.ad_engine_store.specs.Opening.{Refuses}
use Rattle.ad_engine_store.specs.declared.fault.OpenFault.{OpenFault}
use Rattle.cmd_call.specs.declared.outcome.Outcome.{Outcome}
use Rattle.cmd_call.specs.declared.outcome.Outcome.TheVariants.{Done, NoStore, SiteFailed, NoMemory}
use Rattle.cmd_call.specs.Call.{IsTold}
use Rattle.cmd_call.specs.Lines.{counted}
use Rattle.cmd_call.specs.Outcome.{IsOfStore}
use Rattle.cmd_call.specs.Store.{Emits, EmitsPart, KeepsSlots, IsSiteHealthy}
use Rattle.cmd_store_open.specs.Opened.{IsDirStore, NoDirStore, IsNoStore}
use Rattle.cmd_store_open.specs.Lines.{objects_line, store_line}
use Rattle.cmd_store.specs.Stale.{stale}

-- how many objects there are, how many are pending, how many are stale, and how many different descriptors are stored
abbrev pub check_text : Directory → List ℕ
check_text dir = objects_line dir ++
    (counted (codes "pending") (length dir.pending)
    ++ (counted (codes "stale") (stale dir) ++ counted (codes "descriptors") (descriptor_count dir.objects)))

-- what may be emitted for the slots: the numbers of their directory, or why they represent none
abbrev pub IsCheckText : Images → List ℕ → Type 0
IsCheckText held text = ((dir : Directory) × IsStoreOf held dir × (text ≡ check_text dir)) ⊎
    ((fault : OpenFault) × Refuses held fault × (text ≡ store_line fault))

module _ {S : Type 0} (site : SiteGhosts S) where
  -- The store represents a directory, and its numbers were emitted.
  pub record IsChecked (old new : S) : Type 0 where
    pub dir : Directory
    pub store : IfSome (site.reads old) (λ held. IsStoreOf held dir)
    pub text : Emits (site.emitted old) (site.emitted new) (check_text dir)

  -- The site failed: nothing was emitted, or a prefix of the text for the slots.
  abbrev pub IsPartlyChecked : S → S → Type 0
  IsPartlyChecked old new = StaysTold (site.emitted old) (site.emitted new)
      ⊎ ((text : List ℕ) × IfSome (site.reads old) (λ held. IsCheckText held text) × EmitsPart (site.emitted old)
      (site.emitted new) text)

  pub record CheckDoes (old new : S) (outcome : Outcome) : Type 0 where
    pub done : outcome ≡ Done → IsChecked old new
    pub no_store : outcome ≡ NoStore → IsNoStore site old new
    -- a store that represents a directory is checked, unless the site fails or memory runs out
    pub complete : IsTold IsDirStore (site.reads old) → IsSiteHealthy site old new → (outcome ≡ Done)
        ⊎ (outcome ≡ NoMemory)
    -- slots that represent no directory are refused, unless the site fails or memory runs out
    pub refuses : IsTold NoDirStore (site.reads old) → IsSiteHealthy site old new → (outcome ≡ NoStore)
        ⊎ (outcome ≡ NoMemory)
    pub partly : outcome ≡ SiteFailed → IsPartlyChecked old new
    pub quiet : outcome ≡ NoMemory → StaysTold (site.emitted old) (site.emitted new)
    -- no slot is written, whatever comes
    pub slots : KeepsSlots site old new
    pub only : IsOfStore outcome
