-- What `adsd audit` does.
use Rattle.std.specs.Prelude.{◌≡◌, ◌⊎◌, IfSome}
use Rattle.site_io.specs.Told.{StaysTold}
use Rattle.site_io.specs.declared.source.Source.{Ghosts as SourceGhosts}
use Rattle.site_io.specs.declared.site.Site.{Ghosts as SiteGhosts}
use Rattle.ad_dir_model.specs.Directory.{Directory}
use Rattle.ad_rows_write.specs.Rows.{IsStoreOf}
use Rattle.ad_frames.specs.Frames.{End, Whole, Over, Bad, frames_of}
use Rattle.cmd_call.specs.declared.outcome.Outcome.{Outcome}
use Rattle.cmd_call.specs.declared.outcome.Outcome.TheVariants.{Done, NotOfForm, TooMany, NoStore, SourceFailed}
use Rattle.cmd_call.specs.declared.outcome.Outcome.TheVariants.{SiteFailed, NoMemory}
use Rattle.cmd_call.specs.Call.{IsTold}
use Rattle.cmd_call.specs.Outcome.{IsOfServe}
use Rattle.cmd_call.specs.Store.{Emits, EmitsPart, KeepsSlots, IsSiteHealthy, IsAllHealthy}
use Rattle.cmd_store_open.specs.Opened.{IsDirStore, NoDirStore}
use Rattle.cmd_store_open.specs.Ends.{outcome_at, EndsAs, IsUnopened, IsReadOut}
use Rattle.cmd_audit.specs.Log.{audit_text}

module _ {I S : Type 0} (source : SourceGhosts I) (site : SiteGhosts S) where
  -- The store represented a directory, the events of the frames of the input were emitted, in order, and the input
  -- ends so.
  pub record IsAudited (end : End) (from : I) (old new : S) : Type 0 where
    pub dir : Directory
    pub store : IfSome (site.reads old) (λ held. IsStoreOf held dir)
    pub told : IfSome (source.rest from)
        (λ input. EndsAs end input × Emits (site.emitted old) (site.emitted new)
        (audit_text dir (frames_of input).frames))

  -- Nothing was emitted, or the store represented a directory, and a prefix of the events of the frames of the
  -- input was.
  abbrev pub IsPartlyAudited : I → S → S → Type 0
  IsPartlyAudited from old new = StaysTold (site.emitted old) (site.emitted new)
      ⊎ ((dir : Directory) × IfSome (site.reads old) (λ held. IsStoreOf held dir)
      × IfSome (source.rest from) (λ input. EmitsPart (site.emitted old) (site.emitted new)
      (audit_text dir (frames_of input).frames)))

  pub record AuditDoes (from to : I) (old new : S) (outcome : Outcome) : Type 0 where
    pub done : outcome ≡ Done → IsAudited Whole from old new × IsReadOut source from to
    pub bad : outcome ≡ NotOfForm → IsAudited Bad from old new
    pub over : outcome ≡ TooMany → IsAudited Over from old new
    pub no_store : outcome ≡ NoStore → IsUnopened site old new × (to ≡ from)
    pub partly : (outcome ≡ SourceFailed) ⊎ ((outcome ≡ SiteFailed) ⊎ (outcome ≡ NoMemory)) → IsPartlyAudited from old
        new
    -- a store that represents a directory is audited to the input's end, unless something fails outside or memory
    -- runs out
    pub complete : (end : End) → IsTold IsDirStore (site.reads old) → IsTold (EndsAs end) (source.rest from)
        → IsAllHealthy source site from to old new
        → (outcome ≡ outcome_at end) ⊎ (outcome ≡ NoMemory)
    -- slots that represent no directory are refused, and nothing is emitted
    pub refuses : IsTold NoDirStore (site.reads old) → IsSiteHealthy site old new → (outcome ≡ NoStore)
        ⊎ (outcome ≡ NoMemory)
    pub none : IsTold NoDirStore (site.reads old) → StaysTold (site.emitted old) (site.emitted new)
    -- no slot is written, whatever comes
    pub slots : KeepsSlots site old new
    pub only : IsOfServe outcome
