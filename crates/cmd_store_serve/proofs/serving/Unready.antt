-- Serving where a store that was opened isn't made ready.
use Rattle.std.proofs.Common.{inl, ⊎_elim, ℕ, List, [], Option, Some, None, refl, sym, subst}
use Rattle.site_io.specs.declared.source.Source.{Ghosts as SourceGhosts}
use Rattle.site_io.specs.declared.site.Site.{Ghosts as SiteGhosts}
use Rattle.ad_dir_model.specs.Directory.{Directory}
use Rattle.ad_frames.specs.Frames.{frames_of}
use Rattle.ad_engine.specs.Runs.{out}
use Rattle.cmd_call.specs.declared.outcome.Outcome.{Outcome}
use Rattle.cmd_call.specs.declared.outcome.Outcome.TheVariants.{SiteFailed, NoMemory}
use Rattle.cmd_call.proofs.Moments.{IsLawful}
use Rattle.cmd_store_open.specs.Ready.{IsUnready}
use Rattle.cmd_store_serve.specs.serving.One.{Ended}
use Rattle.cmd_store_open.proofs.Fronts.{Fronts}
use Rattle.cmd_store_serve.proofs.serving.Ending.{Leaves, ends_memory, ends_failed}
use Rattle.cmd_store_open.proofs.Parts.{part_none}
use Rattle.cmd_store_serve.proofs.serving.Running.{moments_none}

no_front : (r : Option (List ℕ)) → Fronts [] r
no_front None = tt
no_front (Some input) = ((frames_of input).frames, refl)

module _ {I S : Type 0} (source : SourceGhosts I) (site : SiteGhosts S) where
  leaves_none : IsLawful site → (dir : Directory) (x z : S) (outcome : Outcome) → IsUnready site dir x z outcome
      → Leaves site dir [] x z
  leaves_none law dir x z outcome unready = record {
    store = unready.opening.store;
    synced = unready.synced;
    begun = unready.opening.begun;
    moments = moments_none site law dir unready.synced x z unready.opening;
    part = part_none (site.emitted x) (site.emitted z) (out dir []) unready.opening.touches.output;
  }

  failed : IsLawful site → (from : I) (dir : Directory) (x z : S) → IsUnready site dir x z SiteFailed
      → Ended source site from from x z SiteFailed
  failed law from dir x z unready = record {
    does = ends_failed source site from from dir [] x z (leaves_none law dir x z SiteFailed unready)
        (no_front (source.rest from)) (inl (unready.cause refl));
    source_failed = λ no. absurd cc;
    site_failed = λ _. inl (unready.cause refl);
  }

  no_memory : IsLawful site → (from : I) (dir : Directory) (x z : S) → IsUnready site dir x z NoMemory
      → Ended source site from from x z NoMemory
  no_memory law from dir x z unready = record {
    does = ends_memory source site from from dir [] x z (leaves_none law dir x z NoMemory unready)
        (no_front (source.rest from));
    source_failed = λ no. absurd cc;
    site_failed = λ no. absurd cc;
  }

  pub ended_unready : IsLawful site → (from : I) (dir : Directory) (x z : S) (outcome : Outcome)
      → IsUnready site dir x z outcome → Ended source site from from x z outcome
  ended_unready law from dir x z outcome unready = ⊎_elim
      (λ is. subst (Ended source site from from x z) (sym is)
      (failed law from dir x z (subst (IsUnready site dir x z) is unready)))
      (λ is. subst (Ended source site from from x z) (sym is)
      (no_memory law from dir x z (subst (IsUnready site dir x z) is unready)))
      unready.only
