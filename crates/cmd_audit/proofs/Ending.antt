-- How auditing ends, from what was told and read.
use Rattle.std.proofs.Common.{◌≡◌, ◌∙◌, inl, inr, ⊎_elim, ℕ, List, Option, refl, sym, ap, subst}
use Rattle.std.specs.Option.{IfSome}
use Rattle.site_io.specs.Counts.{HasRisen}
use Rattle.site_io.specs.declared.source.Source.{Ghosts as SourceGhosts}
use Rattle.site_io.specs.declared.site.Site.{Ghosts as SiteGhosts}
use Rattle.ad_dir_model.specs.Directory.{Directory}
use Rattle.ad_rows_write.specs.Rows.{IsStoreOf}
use Rattle.ad_frames.specs.declared.frame.Frame.{Frame}
use Rattle.ad_frames.specs.Frames.{End, Whole, Over, Bad, frames_of}
use Rattle.cmd_call.specs.declared.outcome.Outcome.TheVariants.{Done, NotOfForm, TooMany, SourceFailed, SiteFailed}
use Rattle.cmd_call.specs.declared.outcome.Outcome.TheVariants.{NoMemory}
use Rattle.cmd_call.specs.Call.{IsTold}
use Rattle.cmd_call.specs.Store.{HasFailed, Emits, EmitsPart, KeepsSlots}
use Rattle.cmd_call.proofs.Moments.{told_clash, told_map, told_meets}
use Rattle.cmd_call.proofs.Telling.{unhealthy}
use Rattle.cmd_store_open.specs.Opened.{NoDirStore}
use Rattle.cmd_store_open.specs.Ends.{outcome_at, EndsAs, IsReadOut}
use Rattle.cmd_store_open.proofs.Fronts.{Fronts, AreAll}
use Rattle.cmd_store_open.proofs.Parts.{part_longer}
use Rattle.cmd_audit.specs.Audit.{IsAudited, IsPartlyAudited}
use Rattle.cmd_audit.specs.Log.{audit_text}
use Rattle.cmd_audit.specs.Steps.{Ended}
use Rattle.cmd_audit.proofs.Fold.{text_append}

complete_at : (end other : End) (frames : List Frame) (r : Option (List ℕ)) → IfSome r (AreAll end frames)
    → IsTold (EndsAs other) r → outcome_at end ≡ outcome_at other
complete_at end other frames r all ends = told_meets (EndsAs other) (AreAll end frames) r
    (λ input is have. ap outcome_at (sym have.1 ∙ is)) ends all

module _ {S : Type 0} (site : SiteGhosts S) where
  no_dir : (dir : Directory) (old : S) → IfSome (site.reads old) (λ held. IsStoreOf held dir)
      → IsTold NoDirStore (site.reads old) → ⊥
  no_dir dir old store none = told_clash NoDirStore (λ held. IsStoreOf held dir) (site.reads old)
      (λ held no is. no (dir, is)) none store

  -- What was told of these frames, from a store of the directory, whose slots are kept.
  pub record Told (dir : Directory) (frames : List Frame) (old new : S) : Type 0 where
    pub store : IfSome (site.reads old) (λ held. IsStoreOf held dir)
    pub all : Emits (site.emitted old) (site.emitted new) (audit_text dir frames)
    pub keeps : KeepsSlots site old new

  -- or a part of it
  pub record PartTold (dir : Directory) (frames : List Frame) (old new : S) : Type 0 where
    pub store : IfSome (site.reads old) (λ held. IsStoreOf held dir)
    pub part : EmitsPart (site.emitted old) (site.emitted new) (audit_text dir frames)
    pub keeps : KeepsSlots site old new

module _ {I S : Type 0} (source : SourceGhosts I) (site : SiteGhosts S) where
  audited_of : (end : End) (from : I) (dir : Directory) (frames : List Frame) (old new : S) → Told site dir frames old
      new
      → IfSome (source.rest from) (AreAll end frames) → IsAudited source site end from old new
  audited_of end from dir frames old new so_far all = record {
    dir = dir;
    store = so_far.store;
    told = told_map _ _ (source.rest from)
        (λ input is. (
          is.1,
          subst (λ (l : List Frame). Emits (site.emitted old) (site.emitted new) (audit_text dir l))
              (sym is.0) so_far.all,
        )) all;
  }

  partly_of : (from : I) (dir : Directory) (frames : List Frame) (old new : S) → PartTold site dir frames old new
      → Fronts frames (source.rest from)
      → IsPartlyAudited source site from old new
  partly_of from dir frames old new so_far fronts = inr (
    dir,
    so_far.store,
    told_map _ _ (source.rest from) (λ input first. let more = text_append dir frames first.0 in
        part_longer (site.emitted old) (site.emitted new) (audit_text dir frames) more.0
        (audit_text dir (frames_of input).frames)
        (ap (audit_text dir) first.1 ∙ more.1) so_far.part) fronts,
  )

  -- ---- the input ends

  pub ends_whole : (from to : I) (dir : Directory) (frames : List Frame) (old new : S) → Told site dir frames old new
      → IfSome (source.rest from) (AreAll Whole frames) → IsReadOut source from to → Ended source site from to
      old new Done
  ends_whole from to dir frames old new so_far all out = record {
    does = record {
      done = λ _. (audited_of Whole from dir frames old new so_far all, out);
      bad = λ no. absurd cc;
      over = λ no. absurd cc;
      no_store = λ no. absurd cc;
      partly = λ no. ⊎_elim (λ a. absurd cc) (λ rest. ⊎_elim (λ b. absurd cc) (λ c. absurd cc) rest) no;
      complete = λ other _ ends _. inl (complete_at Whole other frames (source.rest from) all ends);
      refuses = λ none _. absurd (no_dir site dir old so_far.store none);
      none = λ none. absurd (no_dir site dir old so_far.store none);
      slots = so_far.keeps;
      only = tt;
    };
    source_failed = λ no. absurd cc;
    site_failed = λ no. absurd cc;
  }

  -- what is left begins with no frame
  pub ends_bad : (from to : I) (dir : Directory) (frames : List Frame) (old new : S) → Told site dir frames old new
      → IfSome (source.rest from) (AreAll Bad frames) → Ended source site from to old new NotOfForm
  ends_bad from to dir frames old new so_far all = record {
    does = record {
      done = λ no. absurd cc;
      bad = λ _. audited_of Bad from dir frames old new so_far all;
      over = λ no. absurd cc;
      no_store = λ no. absurd cc;
      partly = λ no. ⊎_elim (λ a. absurd cc) (λ rest. ⊎_elim (λ b. absurd cc) (λ c. absurd cc) rest) no;
      complete = λ other _ ends _. inl (complete_at Bad other frames (source.rest from) all ends);
      refuses = λ none _. absurd (no_dir site dir old so_far.store none);
      none = λ none. absurd (no_dir site dir old so_far.store none);
      slots = so_far.keeps;
      only = tt;
    };
    source_failed = λ no. absurd cc;
    site_failed = λ no. absurd cc;
  }

  -- as many frames were run as may be
  pub ends_over : (from to : I) (dir : Directory) (frames : List Frame) (old new : S) → Told site dir frames old new
      → IfSome (source.rest from) (AreAll Over frames) → Ended source site from to old new TooMany
  ends_over from to dir frames old new so_far all = record {
    does = record {
      done = λ no. absurd cc;
      bad = λ no. absurd cc;
      over = λ _. audited_of Over from dir frames old new so_far all;
      no_store = λ no. absurd cc;
      partly = λ no. ⊎_elim (λ a. absurd cc) (λ rest. ⊎_elim (λ b. absurd cc) (λ c. absurd cc) rest) no;
      complete = λ other _ ends _. inl (complete_at Over other frames (source.rest from) all ends);
      refuses = λ none _. absurd (no_dir site dir old so_far.store none);
      none = λ none. absurd (no_dir site dir old so_far.store none);
      slots = so_far.keeps;
      only = tt;
    };
    source_failed = λ no. absurd cc;
    site_failed = λ no. absurd cc;
  }

  -- ---- it is cut off

  pub ends_cut : (from to : I) (dir : Directory) (frames : List Frame) (old new : S) → PartTold site dir frames old new
      → Fronts frames (source.rest from) → HasRisen (source.faults from) (source.faults to)
      → Ended source site from to old new SourceFailed
  ends_cut from to dir frames old new so_far fronts risen = record {
    does = record {
      done = λ no. absurd cc;
      bad = λ no. absurd cc;
      over = λ no. absurd cc;
      no_store = λ no. absurd cc;
      partly = λ _. partly_of from dir frames old new so_far fronts;
      complete = λ _ _ _ healthy. absurd (healthy.reads_well risen);
      refuses = λ none _. absurd (no_dir site dir old so_far.store none);
      none = λ none. absurd (no_dir site dir old so_far.store none);
      slots = so_far.keeps;
      only = tt;
    };
    source_failed = λ _. risen;
    site_failed = λ no. absurd cc;
  }

  pub ends_memory : (from to : I) (dir : Directory) (frames : List Frame) (old new : S) → PartTold site dir frames old
      new
      → Fronts frames (source.rest from) → Ended source site from to old new NoMemory
  ends_memory from to dir frames old new so_far fronts = record {
    does = record {
      done = λ no. absurd cc;
      bad = λ no. absurd cc;
      over = λ no. absurd cc;
      no_store = λ no. absurd cc;
      partly = λ _. partly_of from dir frames old new so_far fronts;
      complete = λ _ _ _ _. inr refl;
      refuses = λ none _. absurd (no_dir site dir old so_far.store none);
      none = λ none. absurd (no_dir site dir old so_far.store none);
      slots = so_far.keeps;
      only = tt;
    };
    source_failed = λ no. absurd cc;
    site_failed = λ no. absurd cc;
  }

  pub ends_failed : (from to : I) (dir : Directory) (frames : List Frame) (old new : S) → PartTold site dir frames old
      new
      → Fronts frames (source.rest from) → HasFailed site old new → Ended source site from to old new SiteFailed
  ends_failed from to dir frames old new so_far fronts failed = record {
    does = record {
      done = λ no. absurd cc;
      bad = λ no. absurd cc;
      over = λ no. absurd cc;
      no_store = λ no. absurd cc;
      partly = λ _. partly_of from dir frames old new so_far fronts;
      complete = λ _ _ _ healthy. absurd (unhealthy site old new failed healthy.keeps_well);
      refuses = λ none _. absurd (no_dir site dir old so_far.store none);
      none = λ none. absurd (no_dir site dir old so_far.store none);
      slots = so_far.keeps;
      only = tt;
    };
    source_failed = λ no. absurd cc;
    site_failed = λ _. failed;
  }
