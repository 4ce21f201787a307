-- How a command that reads frames ends.
use Rattle.std.specs.Prelude.{◌≡◌, ◌⊎◌, ℕ, ◌≤◌, false, List, [], Option, IfSome}
use Rattle.site_io.specs.Counts.{HasRisen}
use Rattle.site_io.specs.Told.{BothTold, StaysTold}
use Rattle.site_io.specs.declared.source.Source.{Ghosts as SourceGhosts}
use Rattle.site_io.specs.declared.site.Site.{Ghosts as SiteGhosts}
use Rattle.ad_frames.specs.Frames.{End, Whole, Over, Bad, frames_of}
use Rattle.ad_frames.specs.declared.fault.FrameFault.{FrameFault}
use Rattle.ad_frames.specs.declared.fault.FrameFault.TheVariants as frame
use Rattle.ad_engine_store.specs.Opening.{Refuses, is_outside}
use Rattle.ad_engine_store.specs.declared.fault.OpenFault.{OpenFault}
use Rattle.ad_engine_store.specs.declared.fault.OpenFault.TheVariants as slots
use Rattle.cmd_call.specs.declared.outcome.Outcome.{Outcome}
use Rattle.cmd_call.specs.declared.outcome.Outcome.TheVariants.{Done, NotOfForm, NoStore}
use Rattle.cmd_call.specs.declared.outcome.Outcome.TheVariants.{TooMany, SourceFailed, SiteFailed, NoMemory}
use Rattle.cmd_call.specs.Store.{KeepsSlots}

-- ---- by the end of the input

-- how the command ends by the end of the input
abbrev pub outcome_at : End → Outcome
outcome_at Whole = Done
outcome_at Over = TooMany
outcome_at Bad = NotOfForm

-- the frames of the input end so
abbrev pub EndsAs : End → List ℕ → Type 0
EndsAs end input = (frames_of input).end ≡ end

module _ {I : Type 0} (source : SourceGhosts I) where
  -- the input was read to its end
  abbrev pub IsReadOut : I → I → Type 0
  IsReadOut from to = BothTold (source.rest from) (source.rest to) (λ input left. left ≡ [])

-- ---- faults as outcomes

abbrev pub outcome_of_open : OpenFault → Outcome
outcome_of_open slots.Taken = NoStore
outcome_of_open slots.Empty = NoStore
outcome_of_open slots.Broken = NoStore
outcome_of_open (slots.Row kind number) = NoStore
outcome_of_open (slots.Unsound number) = NoStore
outcome_of_open slots.Site = SiteFailed
outcome_of_open slots.Memory = NoMemory

abbrev pub of_frame : FrameFault → Outcome
of_frame (frame.Kind kind) = NotOfForm
of_frame (frame.Connection connection) = NotOfForm
of_frame (frame.Length len) = NotOfForm
of_frame (frame.Steps steps) = NotOfForm
of_frame (frame.Token fault) = NotOfForm
of_frame frame.Truncated = NotOfForm
of_frame frame.Source = SourceFailed
of_frame frame.Memory = NoMemory

-- ---- where no store was opened

module _ {S : Type 0} (site : SiteGhosts S) where
  -- The slots were not opened, nothing was emitted and no slot written.
  pub record IsUnopened (old new : S) : Type 0 where
    pub fault : OpenFault
    pub inside : is_outside fault ≡ false
    pub store : IfSome (site.reads old) (λ held. Refuses held fault)
    pub quiet : StaysTold (site.emitted old) (site.emitted new)
    pub slots : KeepsSlots site old new

-- ---- after the last frame that may be

pub record IsEnd (rest left : Option (List ℕ)) (before behind : ℕ) (outcome : Outcome) : Type 0 where
  pub whole : outcome ≡ Done → BothTold rest left (λ input behind. (input ≡ []) × (behind ≡ []))
  pub over : outcome ≡ TooMany → BothTold rest left (λ input behind. input ≡ [] → ⊥)
  pub cut : outcome ≡ SourceFailed → BothTold rest left (λ input behind. input ≡ behind) × HasRisen before behind
  pub never_falls : before ≤ behind
  pub only : (outcome ≡ Done) ⊎ ((outcome ≡ TooMany) ⊎ (outcome ≡ SourceFailed))
