-- Auditing where no store is opened.
use Rattle.std.proofs.Common.{◌≡◌, inl, inr, ⊎_elim, Err, false, refl}
use Rattle.std.specs.Option.{IfSome}
use Rattle.site_io.specs.Counts.{HasRisen}
use Rattle.site_io.specs.Outside.{OnlyLooks}
use Rattle.site_io.specs.declared.source.Source.{Ghosts as SourceGhosts}
use Rattle.site_io.specs.declared.site.Site.{Ghosts as SiteGhosts}
use Rattle.ad_engine_store.specs.Opening.{Refuses, is_outside, IsOpenedAs}
use Rattle.ad_engine_store.specs.declared.fault.OpenFault.{OpenFault}
use Rattle.ad_engine_store.specs.declared.fault.OpenFault.TheVariants as fault
use Rattle.cmd_call.specs.declared.outcome.Outcome.TheVariants.{NoStore, SiteFailed, NoMemory}
use Rattle.cmd_call.proofs.Moments.{looks_keep}
use Rattle.cmd_store_open.proofs.Refusing.{never_refused, inside}
use Rattle.cmd_store_open.specs.Ends.{outcome_of_open}
use Rattle.cmd_audit.specs.Steps.{Ended}

module _ {I S : Type 0} (source : SourceGhosts I) (site : SiteGhosts S) where
  refused : (from : I) (x y : S) (why : OpenFault) → OnlyLooks site x y → is_outside why ≡ false
      → IfSome (site.reads x) (λ held. Refuses held why)
      → Ended source site from from x y NoStore
  refused from x y why looks within none = record {
    does = record {
      done = λ no. absurd cc;
      bad = λ no. absurd cc;
      over = λ no. absurd cc;
      no_store = λ _. (
        record {
          fault = why;
          inside = within;
          store = none;
          quiet = looks.output;
          slots
              = looks_keep site x y looks;
        },
        refl,
      );
      partly = λ no. ⊎_elim (λ a. absurd cc) (λ rest. ⊎_elim (λ b. absurd cc) (λ c. absurd cc) rest) no;
      complete = λ _ stands _ _. absurd (never_refused why (site.reads x) stands none);
      refuses = λ _ _. inl refl;
      none = λ _. looks.output;
      slots = looks_keep site x y looks;
      only = tt;
    };
    source_failed = λ no. absurd cc;
    site_failed = λ no. absurd cc;
  }

  pub unopened_failed : (from : I) (x y : S) → OnlyLooks site x y → HasRisen (site.slot_faults x) (site.slot_faults y)
      → Ended source site from from x y SiteFailed
  unopened_failed from x y looks risen = record {
    does = record {
      done = λ no. absurd cc;
      bad = λ no. absurd cc;
      over = λ no. absurd cc;
      no_store = λ no. absurd cc;
      partly = λ _. inl looks.output;
      complete = λ _ _ _ healthy. absurd (healthy.keeps_well.slots risen);
      refuses = λ _ healthy. absurd (healthy.slots risen);
      none = λ _. looks.output;
      slots = looks_keep site x y looks;
      only = tt;
    };
    source_failed = λ no. absurd cc;
    site_failed = λ _. inl risen;
  }

  pub unopened_memory : (from : I) (x y : S) → OnlyLooks site x y → Ended source site from from x y NoMemory
  unopened_memory from x y looks = record {
    does = record {
      done = λ no. absurd cc;
      bad = λ no. absurd cc;
      over = λ no. absurd cc;
      no_store = λ no. absurd cc;
      partly = λ _. inl looks.output;
      complete = λ _ _ _ _. inr refl;
      refuses = λ _ _. inr refl;
      none = λ _. looks.output;
      slots = looks_keep site x y looks;
      only = tt;
    };
    source_failed = λ no. absurd cc;
    site_failed = λ no. absurd cc;
  }

  pub unopened : (from : I) (x y : S) (why : OpenFault) → OnlyLooks site x y
      → IfSome (site.reads x) (λ held. IsOpenedAs held (Err why))
      → (why ≡ fault.Site → HasRisen (site.slot_faults x) (site.slot_faults y)) → Ended source site from from x y
      (outcome_of_open why)
  unopened from x y fault.Taken looks opened risen = refused from x y fault.Taken looks refl
      (inside (site.reads x) fault.Taken refl opened)
  unopened from x y fault.Empty looks opened risen = refused from x y fault.Empty looks refl
      (inside (site.reads x) fault.Empty refl opened)
  unopened from x y fault.Broken looks opened risen = refused from x y fault.Broken looks refl
      (inside (site.reads x) fault.Broken refl opened)
  unopened from x y (fault.Row kind number) looks opened risen =
      refused from x y (fault.Row kind number) looks refl (inside (site.reads x) (fault.Row kind number) refl opened)
  unopened from x y (fault.Unsound number) looks opened risen =
      refused from x y (fault.Unsound number) looks refl (inside (site.reads x) (fault.Unsound number) refl opened)
  unopened from x y fault.Site looks opened risen = unopened_failed from x y looks (risen refl)
  unopened from x y fault.Memory looks opened risen = unopened_memory from x y looks
