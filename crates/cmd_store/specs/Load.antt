-- What `adsd load` does.
use Rattle.std.specs.Prelude.{◌≡◌, ◌⊎◌, ℕ, ◌≤◌, List, [], Ok, Err, IfSome}
use Rattle.site_io.specs.Disk.{Images}
use Rattle.site_io.specs.Told.{BothTold, StaysTold}
use Rattle.site_io.specs.declared.source.Source.{Ghosts as SourceGhosts}
use Rattle.site_io.specs.declared.site.Site.{Ghosts as SiteGhosts}
use Rattle.ad_dir_model.specs.Directory.{Directory}
use Rattle.ad_rows_write.specs.Rows.{IsStoreOf}
use Rattle.ad_load_records.specs.declared.fault.LoadFault.TheVariants.{Bad}
use Rattle.ad_load_records.specs.declared.fault.LoadCause.{LoadCause}
use Rattle.ad_load.specs.Loaded.{loaded}
use Rattle.ad_engine_store.specs.declared.fault.OpenFault.TheVariants.{Taken}
use Rattle.cmd_call.specs.declared.outcome.Outcome.{Outcome}
use Rattle.cmd_call.specs.declared.outcome.Outcome.TheVariants.{Done, NotOfForm, NoStore, SiteFailed, NoMemory}
use Rattle.cmd_call.specs.Call.{IsTold}
use Rattle.cmd_call.specs.Outcome.{IsStopped, WritesNothing}
use Rattle.cmd_call.specs.Store.{Emits, EmitsPart, AreEmpty, IsTaken, KeepsSlots, IsSiteHealthy, IsAllHealthy}
use Rattle.cmd_store_open.specs.Lines.{objects_line, store_line}
use Rattle.cmd_store.specs.Causes.{load_line}

-- the text is that of this directory, or of none, with its first fault
abbrev pub LoadsAs : Directory → List ℕ → Type 0
LoadsAs dir input = loaded input ≡ Ok dir

abbrev pub FailsAt : ℕ → LoadCause → List ℕ → Type 0
FailsAt line cause input = loaded input ≡ Err (Bad line cause)

abbrev pub IsDirectory : List ℕ → Type 0
IsDirectory input = (dir : Directory) × LoadsAs dir input

abbrev pub NoDirectory : List ℕ → Type 0
NoDirectory input = (line : ℕ) × (cause : LoadCause) × FailsAt line cause input

-- what may be emitted for the input: the line of its directory, or that of its first fault
abbrev pub IsLoadLine : List ℕ → List ℕ → Type 0
IsLoadLine input text = ((dir : Directory) × LoadsAs dir input × (text ≡ objects_line dir))
    ⊎ ((line : ℕ) × (cause : LoadCause) × FailsAt line cause input × (text ≡ load_line line cause))

module _ {I S : Type 0} (source : SourceGhosts I) (site : SiteGhosts S) where
  -- The whole input, which was read to its end, is the text of a directory; the store represents it, and so does
  -- what each crash leaves now; and its line was emitted.
  pub record IsLoaded (from to : I) (old new : S) : Type 0 where
    pub dir : Directory
    pub input : BothTold (source.rest from) (source.rest to) (λ input behind. (behind ≡ []) × LoadsAs dir input)
    pub line : Emits (site.emitted old) (site.emitted new) (objects_line dir)
    pub store : IfSome (site.reads new) (λ held. IsStoreOf held dir)
    pub every_crash : IfSome (site.reads new) (λ held. (images : Images) (out : List ℕ) → site.left new (site.now new)
        images out → IsStoreOf images dir)

  -- The input is the text of no directory, and the line of its first fault was emitted.
  pub record IsRefused (from to : I) (old new : S) : Type 0 where
    pub at : ℕ
    pub cause : LoadCause
    pub input : BothTold (source.rest from) (source.rest to) (λ input behind. FailsAt at cause input)
    pub line : Emits (site.emitted old) (site.emitted new) (load_line at cause)

  -- A slot isn't empty, and nothing was read.
  pub record IsRefusedStore (from to : I) (old new : S) : Type 0 where
    pub slots : IfSome (site.reads old) (λ held. IsTaken held × (to ≡ from))
    pub line : Emits (site.emitted old) (site.emitted new) (store_line Taken)

  -- The site failed: nothing was emitted, or a prefix of the line for the input, or for a slot that isn't empty.
  abbrev pub IsPartlyTold : I → S → S → Type 0
  IsPartlyTold from old new = StaysTold (site.emitted old) (site.emitted new)
      ⊎ (((text : List ℕ) × IfSome (source.rest from) (λ input. IsLoadLine input text) × EmitsPart (site.emitted old)
      (site.emitted new) text)
      ⊎ (IfSome (site.reads old) IsTaken × EmitsPart (site.emitted old) (site.emitted new) (store_line Taken)))

  pub record LoadDoes (from to : I) (old new : S) (outcome : Outcome) : Type 0 where
    pub done : outcome ≡ Done → IsLoaded from to old new
    pub refused : outcome ≡ NotOfForm → IsRefused from to old new
    pub taken : outcome ≡ NoStore → IsRefusedStore from to old new
    -- a directory is loaded into empty slots, and what is none is refused, unless something fails outside or memory
    -- runs out
    pub complete : IsTold IsDirectory (source.rest from) → IsTold AreEmpty (site.reads old) → IsAllHealthy source site
        from to old new
        → (outcome ≡ Done) ⊎ (outcome ≡ NoMemory)
    pub refuses : IsTold NoDirectory (source.rest from) → IsTold AreEmpty (site.reads old) → IsAllHealthy source site
        from to old new
        → (outcome ≡ NotOfForm) ⊎ (outcome ≡ NoMemory)
    -- a slot that isn't empty is seen in any case
    pub sees : IsTold IsTaken (site.reads old) → IsSiteHealthy site old new → outcome ≡ NoStore
    -- slots of which one isn't empty are kept as they are, whatever comes
    pub keeps : IsTold IsTaken (site.reads old) → KeepsSlots site old new
    pub partly : outcome ≡ SiteFailed → IsPartlyTold from old new
    pub quiet : IsStopped outcome → StaysTold (site.emitted old) (site.emitted new)
    -- but where the directory was loaded, or the site failed, the slots are as they were
    pub unwritten : WritesNothing outcome → KeepsSlots site old new
    -- Of empty slots and a directory's text: whatever a crash leaves at any moment of the call with something
    -- emitted represents the directory.
    pub crash : (dir : Directory) → IsTold (LoadsAs dir) (source.rest from) → IsTold AreEmpty (site.reads old)
        → IfSome (site.emitted old) (λ said. (t : ℕ) (images : Images) (out : List ℕ) → site.now old ≤ t
        → site.left new t images out
        → (out ≡ said) ⊎ IsStoreOf images dir)
