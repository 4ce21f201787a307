-- Steps of auditing: one frame, and what was told so far.
use Rattle.std.specs.Prelude.{◌≡◌, ◌⊎◌, ℕ, ◌≤◌, Bool, false, List, None, Result, IfSome, IfErr, OnOk}
use Rattle.site_io.specs.Counts.{HasRisen}
use Rattle.site_io.specs.Disk.{GoesOn}
use Rattle.site_io.specs.Outside.{OnlyLooks}
use Rattle.site_io.specs.declared.source.Source.{Ghosts as SourceGhosts}
use Rattle.site_io.specs.declared.site.Site.{Ghosts as SiteGhosts}
use Rattle.ad_dir_model.specs.Directory.{Directory}
use Rattle.ad_rows_write.specs.Rows.{IsStoreOf}
use Rattle.ad_frames.specs.declared.frame.Frame.{Frame}
use Rattle.ad_frames.specs.declared.frame.FrameBody.{FrameBody}
use Rattle.ad_frames.specs.declared.frame.FrameBody.TheVariants as body
use Rattle.ad_engine_store.specs.Standing.{StandsIn}
use Rattle.ad_engine_store.specs.declared.dir_store.DirStore.{DirStore}
use Rattle.cmd_call.specs.declared.outcome.Outcome.{Outcome}
use Rattle.cmd_call.specs.declared.outcome.Outcome.TheVariants.{SourceFailed, SiteFailed, NoMemory}
use Rattle.cmd_call.specs.Store.{HasFailed, Emits, EmitsPart, KeepsSlots}
use Rattle.cmd_audit.specs.Audit.{AuditDoes}
use Rattle.cmd_audit.specs.Log.{frame_lines}
use Rattle.cmd_audit.specs.State.{State, behind}
use Rattle.cmd_audit.specs.Tries.{message_looks}

-- The engine stands over slots of which nothing is told, unless an earlier call on it failed.
abbrev pub StandsOverNull : DirStore → Type 0
StandsOverNull engine = StandsIn engine None 0 (λ _ _ _. ⊥)

-- the frame is a message that only looks
abbrev pub body_looks : FrameBody → Bool
body_looks (body.Message bytes) = message_looks bytes
body_looks (body.Token _) = false
body_looks (body.Steps _) = false
body_looks body.Run = false

module _ {S : Type 0} (site : SiteGhosts S) where
  -- The text was emitted, or a part of it and the output failed. The slots are as they were.
  pub record TellsText (text : List ℕ) (old new : S) (result : Result (Unit {0}) Outcome) : Type 0 where
    pub whole : OnOk result (Emits (site.emitted old) (site.emitted new) text)
    pub part : EmitsPart (site.emitted old) (site.emitted new) text
    pub keeps : KeepsSlots site old new
    pub moments : GoesOn (site.now old) (site.now new) (site.left old) (site.left new)
    pub never_falls : site.out_faults old ≤ site.out_faults new
    pub slot_faults : site.slot_faults new ≡ site.slot_faults old
    pub failed : IfErr result (λ outcome. (outcome ≡ SiteFailed) × HasRisen (site.out_faults old) (site.out_faults new))

  -- The frame was judged and served, and its lines were emitted; or a part of them, or memory ran out.
  pub record TellsFrame (before after : State) (number : ℕ) (frame : Frame) (old new : S)
      (result : Result (Unit {0}) Outcome) : Type 0 where
    pub served : OnOk result (after ≡ behind before frame)
    pub whole : OnOk result (Emits (site.emitted old) (site.emitted new)
        (frame_lines before.directory before.tokens number frame))
    pub part : EmitsPart (site.emitted old) (site.emitted new) (frame_lines before.directory before.tokens number frame)
    pub keeps : KeepsSlots site old new
    pub moments : GoesOn (site.now old) (site.now new) (site.left old) (site.left new)
    pub never_falls : site.out_faults old ≤ site.out_faults new
    pub slot_faults : site.slot_faults new ≡ site.slot_faults old
    pub failed : IfErr result (λ outcome. (outcome ≡ NoMemory)
        ⊎ ((outcome ≡ SiteFailed) × HasRisen (site.out_faults old) (site.out_faults new)))

module _ {I S : Type 0} (source : SourceGhosts I) (site : SiteGhosts S) where
  -- what the command did, and that a failure has its cause
  pub record Ended (from to : I) (old new : S) (outcome : Outcome) : Type 0 where
    pub does : AuditDoes source site from to old new outcome
    pub source_failed : outcome ≡ SourceFailed → HasRisen (source.faults from) (source.faults to)
    pub site_failed : outcome ≡ SiteFailed → HasFailed site old new

  -- the same since any earlier moment from which on the slots, which represented the directory, were only looked at
  abbrev pub IsAuditedSince : Directory → I → I → S → S → Outcome → Type 0
  IsAuditedSince dir from to opened new outcome = (old : S) → OnlyLooks site old opened → IfSome (site.reads old)
      (λ held. IsStoreOf held dir)
      → Ended from to old new outcome
