-- Serving where no store is opened.
use Rattle.std.proofs.Common.{◌≡◌, inl, inr, ⊎_elim, ℕ, List, Option, Some, None, Err, false, refl}
use Rattle.std.specs.Option.{IfSome}
use Rattle.site_io.specs.Counts.{HasRisen}
use Rattle.site_io.specs.Outside.{OnlyLooks}
use Rattle.site_io.specs.declared.source.Source.{Ghosts as SourceGhosts}
use Rattle.site_io.specs.declared.site.Site.{Ghosts as SiteGhosts}
use Rattle.ad_dir_model.specs.Directory.{Directory}
use Rattle.ad_frames.specs.declared.frame.Frame.{Frame}
use Rattle.ad_frames.specs.Frames.{frames_of}
use Rattle.ad_engine_store.specs.Opening.{Refuses, is_outside, IsOpenedAs}
use Rattle.ad_engine_store.specs.declared.fault.OpenFault.{OpenFault}
use Rattle.ad_engine_store.specs.declared.fault.OpenFault.TheVariants as fault
use Rattle.cmd_call.specs.declared.outcome.Outcome.{Outcome}
use Rattle.cmd_call.specs.declared.outcome.Outcome.TheVariants.{NoStore, SourceFailed, SiteFailed, NoMemory}
use Rattle.cmd_call.specs.Store.{HasFailed}
use Rattle.cmd_call.proofs.Moments.{IsLawful, looks_keep}
use Rattle.cmd_store_open.specs.Opened.{LeavesSynced}
use Rattle.cmd_store_open.proofs.Refusing.{never_refused, inside}
use Rattle.cmd_store_serve.specs.serving.Crash.{IsCrashBehind}
use Rattle.cmd_store_serve.specs.serving.Does.{ServeDoes}
use Rattle.cmd_store_open.specs.Ends.{outcome_of_open}
use Rattle.cmd_store_open.proofs.Begun.{never_synced}

module _ {I S : Type 0} (source : SourceGhosts I) (site : SiteGhosts S) where
  -- what the command did, and that a failure has its cause
  abbrev pub Serves : I → I → S → S → Outcome → Type 0
  Serves from to old new outcome = ServeDoes source site from to old new outcome
      × (outcome ≡ SiteFailed → HasFailed site old new)

  -- nothing was emitted, and what a crash leaves is what it left
  crash_first : IsLawful site → (dir : Directory) (frames : List Frame) (x y : S) → OnlyLooks site x y
      → (r : Option (List ℕ))
      → IfSome r (λ said. LeavesSynced site (IsCrashBehind dir frames said) x y)
  crash_first law dir frames x y looks None = tt
  crash_first law dir frames x y looks (Some said) = never_synced site law (IsCrashBehind dir frames said) x y looks

  crash_looked : IsLawful site → (from : I) (x y : S) → OnlyLooks site x y → (dir : Directory) → (r : Option (List ℕ))
      → IfSome r (λ input. IfSome (site.emitted x)
      (λ said. LeavesSynced site (IsCrashBehind dir (frames_of input).frames said) x y))
  crash_looked law from x y looks dir None = tt
  crash_looked law from x y looks dir (Some input) = crash_first law dir (frames_of input).frames x y looks
      (site.emitted x)

  refused : IsLawful site → (from : I) (x y : S) (why : OpenFault) → OnlyLooks site x y → is_outside why ≡ false
      → IfSome (site.reads x) (λ held. Refuses held why)
      → Serves from from x y NoStore
  refused law from x y why looks within none = (
    record {
      done = λ no. absurd cc;
      bad = λ no. absurd cc;
      over = λ no. absurd cc;
      cut = λ no. absurd cc;
      no_store = λ _. (
        record {
          fault = why;
          inside = within;
          store = none;
          quiet = looks.output;
          slots
              = looks_keep site x y looks;
        },
        refl,
      );
      partly = λ no. ⊎_elim (λ site_failed. absurd cc) (λ memory. absurd cc) no;
      complete = λ _ stands _ _. absurd (never_refused why (site.reads x) stands none);
      refuses = λ _ _. inl refl;
      none = λ _. (looks_keep site x y looks, looks.output);
      crash = λ dir _. crash_looked law from x y looks dir (source.rest from);
      only = tt;
    },
    λ no. absurd cc,
  )

  unopened_failed : IsLawful site → (from : I) (x y : S) → OnlyLooks site x y → HasRisen (site.slot_faults x)
      (site.slot_faults y) → Serves from from x y SiteFailed
  unopened_failed law from x y looks risen = (
    record {
      done = λ no. absurd cc;
      bad = λ no. absurd cc;
      over = λ no. absurd cc;
      cut = λ no. absurd cc;
      no_store = λ no. absurd cc;
      partly = λ _. inl looks.output;
      complete = λ _ _ _ healthy. absurd (healthy.keeps_well.slots risen);
      refuses = λ _ healthy. absurd (healthy.slots risen);
      none = λ _. (looks_keep site x y looks, looks.output);
      crash = λ dir _. crash_looked law from x y looks dir (source.rest from);
      only = tt;
    },
    λ _. inl risen,
  )

  unopened_memory : IsLawful site → (from : I) (x y : S) → OnlyLooks site x y → Serves from from x y NoMemory
  unopened_memory law from x y looks = (
    record {
      done = λ no. absurd cc;
      bad = λ no. absurd cc;
      over = λ no. absurd cc;
      cut = λ no. absurd cc;
      no_store = λ no. absurd cc;
      partly = λ _. inl looks.output;
      complete = λ _ _ _ _. inr refl;
      refuses = λ _ _. inr refl;
      none = λ _. (looks_keep site x y looks, looks.output);
      crash = λ dir _. crash_looked law from x y looks dir (source.rest from);
      only = tt;
    },
    λ no. absurd cc,
  )

  -- for whatever reason
  pub unopened : IsLawful site → (from : I) (x y : S) (why : OpenFault) → OnlyLooks site x y
      → IfSome (site.reads x) (λ held. IsOpenedAs held (Err why))
      → (why ≡ fault.Site → HasRisen (site.slot_faults x) (site.slot_faults y)) → Serves from from x y (outcome_of_open why)
  unopened law from x y fault.Taken looks opened risen = refused law from x y fault.Taken looks refl
      (inside (site.reads x) fault.Taken refl opened)
  unopened law from x y fault.Empty looks opened risen = refused law from x y fault.Empty looks refl
      (inside (site.reads x) fault.Empty refl opened)
  unopened law from x y fault.Broken looks opened risen = refused law from x y fault.Broken looks refl
      (inside (site.reads x) fault.Broken refl opened)
  unopened law from x y (fault.Row kind number) looks opened risen =
      refused law from x y (fault.Row kind number) looks refl
      (inside (site.reads x) (fault.Row kind number) refl opened)
  unopened law from x y (fault.Unsound number) looks opened risen =
      refused law from x y (fault.Unsound number) looks refl (inside (site.reads x) (fault.Unsound number) refl opened)
  unopened law from x y fault.Site looks opened risen = unopened_failed law from x y looks (risen refl)
  unopened law from x y fault.Memory looks opened risen = unopened_memory law from x y looks

-- no source is asked
pub no_source : (why : OpenFault) → outcome_of_open why ≡ SourceFailed → ⊥
no_source fault.Taken is = absurd cc
no_source fault.Empty is = absurd cc
no_source fault.Broken is = absurd cc
no_source (fault.Row kind number) is = absurd cc
no_source (fault.Unsound number) is = absurd cc
no_source fault.Site is = absurd cc
no_source fault.Memory is = absurd cc
