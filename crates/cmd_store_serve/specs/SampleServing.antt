-- The steps of `adsd sample`.
use Rattle.std.specs.Prelude.{◌≡◌, ◌⊎◌, ℕ, ◌≤◌, Bool, true, false, List, Option, Some, None, IfSome}
use Rattle.site_io.specs.Disk.{Images, GoesOn}
use Rattle.site_io.specs.Outside.{StaysKnown}
use Rattle.site_io.specs.Told.{StaysTold}
use Rattle.site_io.specs.declared.site.Site.{Ghosts as SiteGhosts}
use Rattle.ad_frames.specs.declared.fault.FrameFault.{FrameFault}
use Rattle.ad_frames.specs.declared.fault.FrameFault.TheVariants as frame
use Rattle.ad_frames.specs.declared.frame.Frame.{Frame}
use Rattle.ad_gen.specs.Ldif.{ldif}
use Rattle.ad_dir_model.specs.Directory.{Directory}
use Rattle.ad_engine.specs.Answer.{answer}
use Rattle.ad_engine.specs.Runs.{after}
use Rattle.ad_rows_write.specs.Rows.{IsStoreOf}
use Rattle.ad_engine_store.specs.Serving.{LastsOn}
use Rattle.ad_engine_store.specs.Standing.{StandsIn}
use Rattle.ad_engine_store.specs.declared.dir_store.DirStore.{DirStore}
use Rattle.ad_engine_store.specs.declared.fault.OpenFault.TheVariants.{Taken}
use Rattle.cmd_call.specs.Call.{IsTold}
use Rattle.cmd_call.specs.Outcome.{IsEarly, IsOfStore}
use Rattle.cmd_call.specs.Store.{Emits, EmitsPart, AreEmpty, IsTaken, KeepsSlots, IsSiteHealthy, HasFailed}
use Rattle.cmd_call.specs.declared.outcome.Outcome.{Outcome}
use Rattle.cmd_call.specs.declared.outcome.Outcome.TheVariants.{Done, NotOfForm, NoCommand, NoStore, NoObject}
use Rattle.cmd_call.specs.declared.outcome.Outcome.TheVariants.{TooMany, SourceFailed, SiteFailed, NoMemory}
use Rattle.cmd_store.specs.Load.{LoadsAs, IsDirectory, NoDirectory}
use Rattle.cmd_store_open.specs.Lines.{store_line}
use Rattle.cmd_store_serve.specs.Answers.{outputs}
use Rattle.cmd_store_serve.specs.Outcome.{IsOfSample}
use Rattle.cmd_store_serve.specs.Sample.{sampled, IsSampled, IsRefusedStore, IsPartlyTold}
use Rattle.cmd_store_serve.specs.Text.{sample_text}

-- memory ran out, as a frame was read
abbrev pub is_memory : FrameFault → Bool
is_memory frame.Memory = true
is_memory (frame.Kind kind) = false
is_memory (frame.Connection connection) = false
is_memory (frame.Length len) = false
is_memory (frame.Steps steps) = false
is_memory (frame.Token fault) = false
is_memory frame.Truncated = false
is_memory frame.Source = false

-- what the sample's text gives: its directory, or none
abbrev pub IsGiven : ℕ → Option Directory → Type 0
IsGiven n (Some dir) = LoadsAs dir (ldif n)
IsGiven n None = NoDirectory (ldif n)

-- how serving a frame ends that didn't go through
abbrev pub IsCutOff : Outcome → Type 0
IsCutOff Done = ⊥
IsCutOff NotOfForm = ⊥
IsCutOff NoCommand = ⊥
IsCutOff NoStore = ⊥
IsCutOff NoObject = ⊥
IsCutOff TooMany = ⊥
IsCutOff SourceFailed = ⊥
IsCutOff SiteFailed = Unit {0}
IsCutOff NoMemory = Unit {0}

-- serving and telling ends so
abbrev pub IsOfTelling : Outcome → Type 0
IsOfTelling Done = Unit {0}
IsOfTelling NotOfForm = ⊥
IsOfTelling NoCommand = ⊥
IsOfTelling NoStore = ⊥
IsOfTelling NoObject = ⊥
IsOfTelling TooMany = ⊥
IsOfTelling SourceFailed = ⊥
IsOfTelling SiteFailed = Unit {0}
IsOfTelling NoMemory = Unit {0}

module _ {S : Type 0} (site : SiteGhosts S) where
  -- each crash now leaves a store of the directory
  abbrev pub EachLeaves : Directory → S → Type 0
  EachLeaves dir x = (images : Images) (out : List ℕ) → site.left x (site.now x) images out → IsStoreOf images dir

  -- nothing was emitted, or a prefix of the numbers, or of the line for a slot that isn't empty
  abbrev pub IsPartlySampled : Directory → List Frame → S → S → Type 0
  IsPartlySampled dir frames old new = StaysTold (site.emitted old) (site.emitted new)
      ⊎ (EmitsPart (site.emitted old) (site.emitted new) (sample_text dir frames)
      ⊎ (IfSome (site.reads old) IsTaken × EmitsPart (site.emitted old) (site.emitted new) (store_line Taken)))

  -- A frame was served.
  pub record IsServed (before behind : DirStore) (frame : Frame) (output : List ℕ) (old new : S) : Type 0 where
    pub output_is : output ≡ (answer before.dir before.tokens frame).output
    pub directory : behind.dir ≡ (answer before.dir before.tokens frame).directory
    pub tokens : behind.tokens ≡ (answer before.dir before.tokens frame).tokens
    pub stands : StandsIn behind (site.reads new) (site.now new) (site.left new)
    pub unspent : behind.spent ≡ false
    pub lasts : LastsOn site before.dir behind.dir old new

  -- All frames were, from an engine on without tokens.
  pub record AreServed (before behind : DirStore) (frames : List Frame) (answers : List (List ℕ)) (old new : S) : Type 0
    where
      pub answers_are : answers ≡ outputs before.dir frames
      pub directory : behind.dir ≡ after before.dir frames
      pub stands : StandsIn behind (site.reads new) (site.now new) (site.left new)
      pub unspent : behind.spent ≡ false
      pub lasts : LastsOn site before.dir behind.dir old new

  -- Frames were served since the slots were touched first, and the numbers emitted, or something failed before that.
  pub record TellsServed (dir : Directory) (frames : List Frame) (old new : S) (outcome : Outcome) : Type 0 where
    pub done : outcome ≡ Done → Emits (site.emitted old) (site.emitted new) (sample_text dir frames)
    pub store : outcome ≡ Done → IfSome (site.reads new) (λ held. IsStoreOf held (after dir frames))
    pub every_crash : outcome ≡ Done → IfSome (site.reads old)
        (λ held. EachLeaves dir old → EachLeaves (after dir frames) new)
    pub quiet : outcome ≡ NoMemory → StaysTold (site.emitted old) (site.emitted new)
    pub failed : outcome ≡ SiteFailed → HasFailed site old new
        × (StaysTold (site.emitted old) (site.emitted new) ⊎ EmitsPart (site.emitted old) (site.emitted new)
        (sample_text dir frames))
    -- a crash leaves an output that it could leave then, or the directory after the frames
    pub crash : IfSome (site.reads old) (λ held. EachLeaves dir old → (t : ℕ) (images : Images) (out : List ℕ)
        → site.now old ≤ t
        → site.left new t images out → ((began : Images) × site.left old (site.now old) began out)
        ⊎ IsStoreOf images (after dir frames))
    pub known : StaysKnown (site.reads old) (site.reads new)
    pub moments : GoesOn (site.now old) (site.now new) (site.left old) (site.left new)
    pub slot_faults : site.slot_faults old ≤ site.slot_faults new
    pub out_faults : site.out_faults old ≤ site.out_faults new
    pub only : IsOfTelling outcome

  -- A directory is kept in empty slots and sent the frames, and the numbers are emitted.
  pub record Samples (dir : Directory) (frames : List Frame) (old new : S) (outcome : Outcome) : Type 0 where
    pub text : outcome ≡ Done → Emits (site.emitted old) (site.emitted new) (sample_text dir frames)
    pub store : outcome ≡ Done → IfSome (site.reads new) (λ held. IsStoreOf held (after dir frames))
    pub every_crash : outcome ≡ Done → IfSome (site.reads new) (λ held. EachLeaves (after dir frames) new)
    pub taken : outcome ≡ NoStore → IfSome (site.reads old) IsTaken × Emits (site.emitted old) (site.emitted new)
        (store_line Taken)
    pub failed : outcome ≡ SiteFailed → HasFailed site old new × IsPartlySampled dir frames old new
    pub quiet : outcome ≡ NoMemory → StaysTold (site.emitted old) (site.emitted new)
    pub unwritten : outcome ≡ NoStore → KeepsSlots site old new
    pub moments : GoesOn (site.now old) (site.now new) (site.left old) (site.left new)
    pub crash : IsTold AreEmpty (site.reads old) → IfSome (site.emitted old)
        (λ said. (t : ℕ) (images : Images) (out : List ℕ)
        → site.now old ≤ t → site.left new t images out → (out ≡ said) ⊎ IsStoreOf images (after dir frames))
    pub only : IsOfStore outcome

  -- as `SampleDoes`, but that the slots weren't looked at
  pub record SamplesEmpty (n : ℕ) (old new : S) (outcome : Outcome) : Type 0 where
    pub done : outcome ≡ Done → IsSampled site n old new
    pub refused : outcome ≡ NotOfForm → NoDirectory (ldif n)
    pub taken : outcome ≡ NoStore → IsRefusedStore site old new
    pub complete : IsDirectory (ldif n) → IsTold AreEmpty (site.reads old) → IsSiteHealthy site old new
        → (outcome ≡ Done) ⊎ (outcome ≡ NoMemory)
    pub refuses : NoDirectory (ldif n) → IsTold AreEmpty (site.reads old) → IsSiteHealthy site old new
        → (outcome ≡ NotOfForm) ⊎ (outcome ≡ NoMemory)
    pub partly : outcome ≡ SiteFailed → IsPartlyTold site n old new
    pub quiet : IsEarly outcome → StaysTold (site.emitted old) (site.emitted new)
    pub unwritten : (outcome ≡ NotOfForm) ⊎ (outcome ≡ NoStore) → KeepsSlots site old new
    pub crash : (dir : Directory) → LoadsAs dir (ldif n) → IsTold AreEmpty (site.reads old)
        → IfSome (site.emitted old) (λ said. (t : ℕ) (images : Images) (out : List ℕ) → site.now old ≤ t
        → site.left new t images out
        → (out ≡ said) ⊎ IsStoreOf images (sampled dir n))
    pub moments : GoesOn (site.now old) (site.now new) (site.left old) (site.left new)
    pub site_failed : outcome ≡ SiteFailed → HasFailed site old new
    pub only : IsOfSample outcome
