-- The steps of `adsd load`.
use Rattle.std.specs.Prelude.{◌≡◌, ◌⊎◌, ℕ, ◌≤◌, List, [], Option, IfSome}
use Rattle.site_io.specs.Counts.{HasRisen}
use Rattle.site_io.specs.Disk.{Images, GoesOn}
use Rattle.site_io.specs.Told.{BothTold, StaysTold}
use Rattle.site_io.specs.declared.source.Source.{Ghosts as SourceGhosts}
use Rattle.site_io.specs.declared.site.Site.{Ghosts as SiteGhosts}
use Rattle.ad_dir_model.specs.Directory.{Directory}
use Rattle.ad_dir_model.specs.Soundness.{IsSound}
use Rattle.ad_rows_write.specs.Rows.{IsStoreOf}
use Rattle.ad_engine_store.specs.declared.fault.OpenFault.TheVariants.{Taken}
use Rattle.cmd_call.specs.declared.outcome.Outcome.{Outcome}
use Rattle.cmd_call.specs.declared.outcome.Outcome.TheVariants.{Done, NotOfForm, NoStore, SourceFailed, SiteFailed}
use Rattle.cmd_call.specs.declared.outcome.Outcome.TheVariants.{NoMemory}
use Rattle.cmd_call.specs.Call.{IsTold}
use Rattle.cmd_call.specs.Outcome.{IsStopped, WritesNothing, IsOfStore, IsOfLoad}
use Rattle.cmd_call.specs.Store.{HasFailed, Emits, EmitsPart, AreEmpty, IsTaken, KeepsSlots, IsAllHealthy}
use Rattle.cmd_store_open.specs.Lines.{objects_line, store_line}
use Rattle.cmd_store.specs.declared.loading.Given.{Given}
use Rattle.cmd_store.specs.declared.loading.Given.TheVariants as given
use Rattle.cmd_store.specs.Load.{LoadsAs, FailsAt, IsDirectory, NoDirectory, IsLoaded, IsRefused, IsPartlyTold}

-- what a text gives: its directory, or its first fault
abbrev pub IsGiven : Given → List ℕ → Type 0
IsGiven (given.Directory dir) input = LoadsAs dir input
IsGiven (given.Refusal at cause) input = FailsAt at cause input

abbrev pub IsReadFor : Given → List ℕ → Type 0
IsReadFor (given.Directory dir) behind = behind ≡ []
IsReadFor (given.Refusal at cause) behind = Unit {0}

-- the same of the whole input, which was read to its end where it gives a directory
abbrev pub IsGivenFor : Option (List ℕ) → Option (List ℕ) → Given → Type 0
IsGivenFor rest left given = BothTold rest left (λ input behind. IsReadFor given behind × IsGiven given input)

-- a directory that is given is sound
abbrev pub HasSound : Given → Type 0
HasSound (given.Directory dir) = IsSound dir
HasSound (given.Refusal at cause) = Unit {0}

module _ {S : Type 0} (site : SiteGhosts S) where
  -- A slot wasn't empty, or the site failed; so much was emitted of the line for it, or of that of the directory.
  abbrev pub IsPartlyKept : Directory → S → S → Type 0
  IsPartlyKept dir old new = StaysTold (site.emitted old) (site.emitted new)
      ⊎ (EmitsPart (site.emitted old) (site.emitted new) (objects_line dir)
      ⊎ (IfSome (site.reads old) IsTaken × EmitsPart (site.emitted old) (site.emitted new) (store_line Taken)))

  -- A directory is kept in empty slots, and its line is emitted.
  pub record IsKept (dir : Directory) (old new : S) : Type 0 where
    pub line : Emits (site.emitted old) (site.emitted new) (objects_line dir)
    pub store : IfSome (site.reads new) (λ held. IsStoreOf held dir)
    pub every_crash : IfSome (site.reads new) (λ held. (images : Images) (out : List ℕ) → site.left new (site.now new)
        images out → IsStoreOf images dir)

  pub record Keeps (dir : Directory) (old new : S) (outcome : Outcome) : Type 0 where
    pub done : outcome ≡ Done → IsKept dir old new
    pub taken : outcome ≡ NoStore → IfSome (site.reads old) IsTaken × Emits (site.emitted old) (site.emitted new)
        (store_line Taken)
    pub failed : outcome ≡ SiteFailed → HasFailed site old new × IsPartlyKept dir old new
    pub quiet : outcome ≡ NoMemory → StaysTold (site.emitted old) (site.emitted new)
    pub unwritten : WritesNothing outcome → KeepsSlots site old new
    pub moments : GoesOn (site.now old) (site.now new) (site.left old) (site.left new)
    pub crash : IsTold AreEmpty (site.reads old)
        → IfSome (site.emitted old) (λ said. (t : ℕ) (images : Images) (out : List ℕ) → site.now old ≤ t
        → site.left new t images out
        → (out ≡ said) ⊎ IsStoreOf images dir)
    pub only : IsOfStore outcome

module _ {I S : Type 0} (source : SourceGhosts I) (site : SiteGhosts S) where
  -- as `LoadDoes`, but that the slots weren't looked at
  pub record LoadsEmpty (from to : I) (old new : S) (outcome : Outcome) : Type 0 where
    pub done : outcome ≡ Done → IsLoaded source site from to old new
    pub refused : outcome ≡ NotOfForm → IsRefused source site from to old new
    pub taken : outcome ≡ NoStore → IfSome (site.reads old) IsTaken × Emits (site.emitted old) (site.emitted new)
        (store_line Taken)
    pub complete : IsTold IsDirectory (source.rest from) → IsTold AreEmpty (site.reads old) → IsAllHealthy source site
        from to old new
        → (outcome ≡ Done) ⊎ (outcome ≡ NoMemory)
    pub refuses : IsTold NoDirectory (source.rest from) → IsTold AreEmpty (site.reads old) → IsAllHealthy source site
        from to old new
        → (outcome ≡ NotOfForm) ⊎ (outcome ≡ NoMemory)
    pub partly : outcome ≡ SiteFailed → IsPartlyTold source site from old new
    pub quiet : IsStopped outcome → StaysTold (site.emitted old) (site.emitted new)
    pub unwritten : WritesNothing outcome → KeepsSlots site old new
    pub crash : (dir : Directory) → IsTold (LoadsAs dir) (source.rest from) → IsTold AreEmpty (site.reads old)
        → IfSome (site.emitted old) (λ said. (t : ℕ) (images : Images) (out : List ℕ) → site.now old ≤ t
        → site.left new t images out
        → (out ≡ said) ⊎ IsStoreOf images dir)
    pub moments : GoesOn (site.now old) (site.now new) (site.left old) (site.left new)
    pub source_failed : outcome ≡ SourceFailed → HasRisen (source.faults from) (source.faults to)
    pub site_failed : outcome ≡ SiteFailed → HasFailed site old new
    pub only : IsOfLoad outcome
