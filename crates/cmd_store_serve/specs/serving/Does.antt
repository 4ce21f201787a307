-- What `adsd serve` does.
use Rattle.std.specs.Prelude.{◌≡◌, ◌⊎◌, ℕ, List, ◌++◌, IfSome}
use Rattle.site_io.specs.Told.{BothTold, StaysTold}
use Rattle.site_io.specs.declared.source.Source.{Ghosts as SourceGhosts}
use Rattle.site_io.specs.declared.site.Site.{Ghosts as SiteGhosts}
use Rattle.ad_dir_model.specs.Directory.{Directory}
use Rattle.ad_rows_write.specs.Rows.{IsStoreOf}
use Rattle.ad_frames.specs.Frames.{End, Whole, Over, Bad, frames_of}
use Rattle.ad_frames.specs.declared.frame.Frame.{Frame}
use Rattle.ad_engine.specs.Runs.{out, after}
use Rattle.cmd_call.specs.declared.outcome.Outcome.{Outcome}
use Rattle.cmd_call.specs.declared.outcome.Outcome.TheVariants.{Done, NotOfForm, TooMany, NoStore, SourceFailed}
use Rattle.cmd_call.specs.declared.outcome.Outcome.TheVariants.{SiteFailed, NoMemory}
use Rattle.cmd_call.specs.Call.{IsTold}
use Rattle.cmd_call.specs.Outcome.{IsOfServe}
use Rattle.cmd_call.specs.Store.{Emits, EmitsPart, KeepsSlots, IsSiteHealthy, IsAllHealthy}
use Rattle.cmd_store_open.specs.Ends.{outcome_at, EndsAs, IsReadOut, IsUnopened}
use Rattle.cmd_store_open.specs.Opened.{IsDirStore, NoDirStore, EachStandsFor, LeavesSynced}
use Rattle.cmd_store_serve.specs.serving.Crash.{IsCrashBehind}
use Rattle.cmd_store_serve.specs.serving.Reached.{Reaches}

-- The frames that stand whole in what was taken of the input.
pub record StandTaken (input left : List ℕ) (frames : List Frame) : Type 0 where
  pub taken : List ℕ
  pub parts : input ≡ taken ++ left
  pub are : frames ≡ (frames_of taken).frames

module _ {S : Type 0} (site : SiteGhosts S) where
  -- These frames were answered, and the store represents the directory after them, as does what a crash leaves from
  -- then on.
  pub record Answers (dir : Directory) (frames : List Frame) (old new : S) : Type 0 where
    pub emitted : Emits (site.emitted old) (site.emitted new) (out dir frames)
    pub stands : IfSome (site.reads new) (λ held. IsStoreOf held (after dir frames))
    pub lasts : IfSome (site.reads old) (λ held. EachStandsFor site (after dir frames) new)
    pub reached : (n : ℕ) → Reaches dir frames n

module _ {I S : Type 0} (source : SourceGhosts I) (site : SiteGhosts S) where
  -- The store represented a directory, each frame of the input was answered in order, and the input ends so.
  pub record IsServed (end : End) (from to : I) (old new : S) : Type 0 where
    pub dir : Directory
    pub store : IfSome (site.reads old) (λ held. IsStoreOf held dir)
    pub answered : IfSome (source.rest from)
        (λ input. EndsAs end input × Answers site dir (frames_of input).frames old new)

  -- The source failed, and exactly those frames were answered that stand whole in what had been taken.
  pub record IsCutOff (from to : I) (old new : S) : Type 0 where
    pub dir : Directory
    pub store : IfSome (site.reads old) (λ held. IsStoreOf held dir)
    pub answered : BothTold (source.rest from) (source.rest to)
        (λ input left. (frames : List Frame) × StandTaken input left frames × Answers site dir frames old new)

  -- Nothing was emitted, or the store represented a directory, and a prefix of the answers to the frames of the
  -- input was.
  abbrev pub IsPartlyServed : I → S → S → Type 0
  IsPartlyServed from old new = StaysTold (site.emitted old) (site.emitted new)
      ⊎ ((dir : Directory) × IfSome (site.reads old) (λ held. IsStoreOf held dir)
      × IfSome (source.rest from) (λ input. EmitsPart (site.emitted old) (site.emitted new)
      (out dir (frames_of input).frames)))

  pub record ServeDoes (from to : I) (old new : S) (outcome : Outcome) : Type 0 where
    pub done : outcome ≡ Done → IsServed Whole from to old new × IsReadOut source from to
    pub bad : outcome ≡ NotOfForm → IsServed Bad from to old new
    pub over : outcome ≡ TooMany → IsServed Over from to old new
    pub cut : outcome ≡ SourceFailed → IsCutOff from to old new
    pub no_store : outcome ≡ NoStore → IsUnopened site old new × (to ≡ from)
    pub partly : (outcome ≡ SiteFailed) ⊎ (outcome ≡ NoMemory) → IsPartlyServed from old new
    -- a store that represents a directory is served to the input's end, unless something fails outside or memory
    -- runs out
    pub complete : (end : End) → IsTold IsDirStore (site.reads old) → IsTold (EndsAs end) (source.rest from)
        → IsAllHealthy source site from to old new
        → (outcome ≡ outcome_at end) ⊎ (outcome ≡ NoMemory)
    -- slots that represent no directory are refused, and whatever comes they are kept as they are and nothing is
    -- emitted
    pub refuses : IsTold NoDirStore (site.reads old) → IsSiteHealthy site old new → (outcome ≡ NoStore)
        ⊎ (outcome ≡ NoMemory)
    pub none : IsTold NoDirStore (site.reads old) → KeepsSlots site old new × StaysTold (site.emitted old)
        (site.emitted new)
    -- Where a read gave a directory as the call began, whatever a crash could leave then: at each moment of the
    -- call, whatever comes, a crash leaves what it could leave as the call began, and nothing was emitted yet, or
    -- from the sync on the directory after a prefix of the frames, in which is each frame of whose answer a byte
    -- was emitted.
    pub crash : (dir : Directory) → IsTold (λ held. IsStoreOf held dir) (site.reads old)
        → IfSome (source.rest from) (λ input. IfSome (site.emitted old) (λ said.
        LeavesSynced site (IsCrashBehind dir (frames_of input).frames said) old new))
    pub only : IsOfServe outcome
