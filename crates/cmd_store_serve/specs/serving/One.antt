-- Steps of serving: one frame, and all of them.
use Rattle.std.specs.Prelude.{◌≡◌, ◌⊎◌, ℕ, ◌≤◌, false, List, ◌++◌, take, Some, Result, IfSome, IfErr, OnOk}
use Rattle.site_io.specs.Counts.{HasRisen}
use Rattle.site_io.specs.Disk.{Images, GoesOn}
use Rattle.site_io.specs.Outside.{StaysKnown, OnlyLooks}
use Rattle.site_io.specs.declared.source.Source.{Ghosts as SourceGhosts}
use Rattle.site_io.specs.declared.site.Site.{Ghosts as SiteGhosts}
use Rattle.ad_dir_model.specs.Directory.{Directory}
use Rattle.ad_rows_write.specs.Rows.{IsStoreOf}
use Rattle.ad_frames.specs.declared.frame.Frame.{Frame}
use Rattle.ad_engine.specs.Answer.{Answered, answer}
use Rattle.ad_engine_store.specs.Serving.{LastsOn}
use Rattle.ad_engine_store.specs.Standing.{StandsIn}
use Rattle.ad_engine_store.specs.declared.dir_store.DirStore.{DirStore}
use Rattle.cmd_call.specs.declared.outcome.Outcome.{Outcome}
use Rattle.cmd_call.specs.declared.outcome.Outcome.TheVariants.{Done, NotOfForm, NoCommand, NoStore, NoObject}
use Rattle.cmd_call.specs.declared.outcome.Outcome.TheVariants.{TooMany, SourceFailed, SiteFailed, NoMemory}
use Rattle.cmd_call.specs.Store.{HasFailed, Emits, EmitsPart}
use Rattle.cmd_store_open.specs.Opened.{EachStandsFor}
use Rattle.cmd_store_open.specs.Ready.{IsReady}
use Rattle.cmd_store_serve.specs.serving.Does.{ServeDoes}

-- ---- one frame

-- it ended for the site or for want of memory
abbrev pub IsOfSite : Outcome → Type 0
IsOfSite Done = ⊥
IsOfSite NotOfForm = ⊥
IsOfSite NoCommand = ⊥
IsOfSite NoStore = ⊥
IsOfSite NoObject = ⊥
IsOfSite TooMany = ⊥
IsOfSite SourceFailed = ⊥
IsOfSite SiteFailed = Unit {0}
IsOfSite NoMemory = Unit {0}

abbrev pub answered_by : DirStore → Frame → Answered
answered_by engine frame = answer engine.dir engine.tokens frame

-- A crash leaves the old directory, with nothing emitted of the answer, or the new one, with a prefix of it.
abbrev pub IsAmid : DirStore → Frame → List ℕ → Images → List ℕ → Type 0
IsAmid engine frame said images text = ((text ≡ said) × IsStoreOf images engine.dir)
    ⊎ ((k : ℕ) × (text ≡ said ++ take k (answered_by engine frame).output)
    × IsStoreOf images (answered_by engine frame).directory)

module _ {S : Type 0} (site : SiteGhosts S) where
  -- The frame was served and its answer emitted.
  pub record IsAnswered (before behind : DirStore) (frame : Frame) (old new : S) : Type 0 where
    pub directory : behind.dir ≡ (answered_by before frame).directory
    pub tokens : behind.tokens ≡ (answered_by before frame).tokens
    pub stands : StandsIn behind (site.reads new) (site.now new) (site.left new)
    pub unspent : behind.spent ≡ false
    pub output : Emits (site.emitted old) (site.emitted new) (answered_by before frame).output
    pub lasts : LastsOn site before.dir behind.dir old new

  pub record AnswersFrame (before behind : DirStore) (frame : Frame) (old new : S) (result : Result (Unit {0}) Outcome)
      : Type 0 where
    pub answered : OnOk result (IsAnswered before behind frame old new)
    pub part : EmitsPart (site.emitted old) (site.emitted new) (answered_by before frame).output
    pub amid : IfSome (site.reads old) (λ held. EachStandsFor site before.dir old → (said : List ℕ) → site.emitted old
        ≡ Some said
        → (t : ℕ) (images : Images) (text : List ℕ) → site.now old ≤ t → site.left new t images text
        → IsAmid before frame said images text)
    pub moments : GoesOn (site.now old) (site.now new) (site.left old) (site.left new)
    pub known : StaysKnown (site.reads old) (site.reads new)
    pub slot_faults : site.slot_faults old ≤ site.slot_faults new
    pub out_faults : site.out_faults old ≤ site.out_faults new
    pub cause : IfErr result (λ outcome. outcome ≡ SiteFailed → HasFailed site old new)
    pub only : IfErr result IsOfSite

-- ---- all of them

module _ {I S : Type 0} (source : SourceGhosts I) (site : SiteGhosts S) where
  -- what the command did, and that a failure has its cause
  pub record Ended (from to : I) (old new : S) (outcome : Outcome) : Type 0 where
    pub does : ServeDoes source site from to old new outcome
    pub source_failed : outcome ≡ SourceFailed → HasRisen (source.faults from) (source.faults to)
    pub site_failed : outcome ≡ SiteFailed → HasFailed site old new

  -- the same since any earlier moment from which on the slots, which represented the directory, were only looked at
  abbrev pub IsServedSince : Directory → I → I → S → S → Outcome → Type 0
  IsServedSince dir from to opened new outcome = (old : S) → OnlyLooks site old opened → IfSome (site.reads old)
      (λ held. IsStoreOf held dir)
      → Ended from to old new outcome

  -- and since one from which on the store was made ready
  abbrev pub IsServedReady : Directory → I → I → S → S → Outcome → Type 0
  IsServedReady dir from to ready new outcome = (old : S) → IsReady site dir old ready → Ended from to old new outcome
