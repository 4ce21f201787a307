-- What `adsd sample` does.
use Rattle.std.specs.Prelude.{◌≡◌, ◌⊎◌, ℕ, ◌≤◌, List, IfSome}
use Rattle.site_io.specs.Disk.{Images}
use Rattle.site_io.specs.Told.{StaysTold}
use Rattle.site_io.specs.declared.site.Site.{Ghosts as SiteGhosts}
use Rattle.ad_frames.specs.Frames.{frames_of}
use Rattle.ad_frames.specs.declared.frame.Frame.{Frame}
use Rattle.ad_gen.specs.Frames.{frames}
use Rattle.ad_gen.specs.Ldif.{ldif}
use Rattle.ad_dir_model.specs.Directory.{Directory}
use Rattle.ad_engine.specs.Runs.{after}
use Rattle.ad_rows_write.specs.Rows.{IsStoreOf}
use Rattle.ad_engine_store.specs.declared.fault.OpenFault.TheVariants.{Taken}
use Rattle.cmd_call.specs.Call.{IsTold}
use Rattle.cmd_call.specs.Outcome.{IsEarly}
use Rattle.cmd_call.specs.Store.{Emits, EmitsPart, AreEmpty, IsTaken, KeepsSlots, IsSiteHealthy}
use Rattle.cmd_call.specs.declared.outcome.Outcome.{Outcome}
use Rattle.cmd_call.specs.declared.outcome.Outcome.TheVariants.{Done, NotOfForm, NoStore, SiteFailed, NoMemory}
use Rattle.cmd_store.specs.Load.{LoadsAs, IsDirectory, NoDirectory}
use Rattle.cmd_store_open.specs.Lines.{store_line}
use Rattle.cmd_store_serve.specs.Outcome.{IsOfSample}
use Rattle.cmd_store_serve.specs.Text.{sample_text}

-- the frames of the sample
abbrev pub sent : ℕ → List Frame
sent n = (frames_of (frames n)).frames

-- the directory after all of them
abbrev pub sampled : Directory → ℕ → Directory
sampled dir n = after dir (sent n)

module _ {S : Type 0} (site : SiteGhosts S) where
  -- The directory of the sample's text was sent the sample's frames; the store represents the one after them, and
  -- so does what each crash leaves now; and the numbers were emitted.
  pub record IsSampled (n : ℕ) (old new : S) : Type 0 where
    pub dir : Directory
    pub loads : LoadsAs dir (ldif n)
    pub text : Emits (site.emitted old) (site.emitted new) (sample_text dir (sent n))
    pub store : IfSome (site.reads new) (λ held. IsStoreOf held (sampled dir n))
    pub every_crash : IfSome (site.reads new) (λ held. (images : Images) (out : List ℕ) → site.left new (site.now new)
        images out
        → IsStoreOf images (sampled dir n))

  -- A slot isn't empty.
  pub record IsRefusedStore (old new : S) : Type 0 where
    pub slots : IfSome (site.reads old) IsTaken
    pub line : Emits (site.emitted old) (site.emitted new) (store_line Taken)

  -- The site failed: nothing was emitted, or a prefix of the numbers, or of the line for a slot that isn't empty.
  abbrev pub IsPartlyTold : ℕ → S → S → Type 0
  IsPartlyTold n old new = StaysTold (site.emitted old) (site.emitted new)
      ⊎ (((dir : Directory) × LoadsAs dir (ldif n) × EmitsPart (site.emitted old) (site.emitted new)
      (sample_text dir (sent n)))
      ⊎ (IfSome (site.reads old) IsTaken × EmitsPart (site.emitted old) (site.emitted new) (store_line Taken)))

  pub record SampleDoes (n : ℕ) (old new : S) (outcome : Outcome) : Type 0 where
    pub done : outcome ≡ Done → IsSampled n old new
    -- the sample's text would be that of no directory
    pub refused : outcome ≡ NotOfForm → NoDirectory (ldif n)
    pub taken : outcome ≡ NoStore → IsRefusedStore old new
    -- a directory is loaded into empty slots and sent the frames, unless something fails outside or memory runs out
    pub complete : IsDirectory (ldif n) → IsTold AreEmpty (site.reads old) → IsSiteHealthy site old new
        → (outcome ≡ Done) ⊎ (outcome ≡ NoMemory)
    pub refuses : NoDirectory (ldif n) → IsTold AreEmpty (site.reads old) → IsSiteHealthy site old new
        → (outcome ≡ NotOfForm) ⊎ (outcome ≡ NoMemory)
    -- a slot that isn't empty is seen in any case
    pub sees : IsTold IsTaken (site.reads old) → IsSiteHealthy site old new → outcome ≡ NoStore
    -- slots of which one isn't empty are kept as they are, whatever comes
    pub keeps : IsTold IsTaken (site.reads old) → KeepsSlots site old new
    pub partly : outcome ≡ SiteFailed → IsPartlyTold n old new
    pub quiet : IsEarly outcome → StaysTold (site.emitted old) (site.emitted new)
    pub unwritten : (outcome ≡ NotOfForm) ⊎ (outcome ≡ NoStore) → KeepsSlots site old new
    -- Of empty slots: whatever a crash leaves at any moment of the call with something emitted represents the
    -- directory after all frames.
    pub crash : (dir : Directory) → LoadsAs dir (ldif n) → IsTold AreEmpty (site.reads old)
        → IfSome (site.emitted old) (λ said. (t : ℕ) (images : Images) (out : List ℕ) → site.now old ≤ t
        → site.left new t images out
        → (out ≡ said) ⊎ IsStoreOf images (sampled dir n))
    pub only : IsOfSample outcome
