-- `adsd check`, from what the slots are opened as and from what was emitted.
use Rattle.std.proofs.Common.{◌≡◌, inl, inr, Err, refl, sym, subst}
use Rattle.std.specs.Option.{IfSome}
use Rattle.site_io.specs.Counts.{HasRisen}
use Rattle.site_io.specs.Told.{StaysTold}
use Rattle.site_io.specs.Outside.{OnlyLooks}
use Rattle.site_io.specs.declared.site.Site.{Ghosts as SiteGhosts}
use Rattle.ad_dir_model.specs.Directory.{Directory}
use Rattle.ad_rows_write.specs.Rows.{IsStoreOf}
use Rattle.ad_engine_store.specs.Opening.{IsOpenedAs}
use Rattle.ad_engine_store.specs.declared.fault.OpenFault.{OpenFault}
use Rattle.ad_engine_store.specs.declared.fault.OpenFault.TheVariants as fault
use Rattle.cmd_call.specs.declared.outcome.Outcome.{Outcome}
use Rattle.cmd_call.specs.declared.outcome.Outcome.TheVariants.{Done, SiteFailed, NoMemory}
use Rattle.cmd_call.specs.Store.{HasFailed, KeepsSlots, SaysUnless}
use Rattle.cmd_call.proofs.Moments.{told_map}
use Rattle.cmd_call.proofs.Telling.{Tells, whole, part, nothing, telling_by, unhealthy}
use Rattle.cmd_store_open.specs.Refused.{Refused}
use Rattle.cmd_store_open.proofs.Refusing.{stands_clash, never_refused, Ends, refused, failed, stopped}
use Rattle.cmd_store_open.proofs.Refusing.{refusal_by, partly_said}
use Rattle.cmd_store.specs.Check.{check_text, IsCheckText, IsPartlyChecked, CheckDoes}

module _ {S : Type 0} (site : SiteGhosts S) where
  -- what the command did, and that a failure has its cause
  abbrev pub Checks : S → S → Outcome → Type 0
  Checks old new outcome = CheckDoes site old new outcome × (outcome ≡ SiteFailed → HasFailed site old new)

  -- nothing was emitted, for want of memory
  checked_memory : (x z : S) → KeepsSlots site x z → StaysTold (site.emitted x) (site.emitted z) → Checks x z NoMemory
  checked_memory x z keeps quiet = (
    record {
      done = λ no. absurd cc;
      no_store = λ no. absurd cc;
      complete = λ _ _. inr refl;
      refuses = λ _ _. inr refl;
      partly = λ no. absurd cc;
      quiet = λ _. quiet;
      slots = keeps;
      only = tt;
    },
    λ no. absurd cc,
  )

  -- the site failed
  checked_failed : (x z : S) → KeepsSlots site x z → HasFailed site x z → IsPartlyChecked site x z
      → Checks x z SiteFailed
  checked_failed x z keeps cause partly = (
    record {
      done = λ no. absurd cc;
      no_store = λ no. absurd cc;
      complete = λ _ healthy. absurd (unhealthy site x z cause healthy);
      refuses = λ _ healthy. absurd (unhealthy site x z cause healthy);
      partly = λ _. partly;
      quiet = λ no. absurd cc;
      slots = keeps;
      only = tt;
    },
    λ _. cause,
  )

  -- ---- the store represents a directory

  checked_so : (x z : S) (dir : Directory) (outcome : Outcome) → IfSome (site.reads x) (λ held. IsStoreOf held dir)
      → KeepsSlots site x z
      → Tells site x z (check_text dir) Done outcome → Checks x z outcome
  checked_so x z dir outcome stands keeps (whole is text) = subst (Checks x z) (sym is) (
    record {
      done = λ _. record { dir = dir; store = stands; text = text };
      no_store = λ no. absurd cc;
      complete = λ _ _. inl refl;
      refuses = λ none _. absurd (stands_clash dir (site.reads x) stands none);
      partly = λ no. absurd cc;
      quiet = λ no. absurd cc;
      slots = keeps;
      only = tt;
    },
    λ no. absurd cc,
  )
  checked_so x z dir outcome stands keeps (part is risen text) = subst (Checks x z) (sym is)
      (checked_failed x z keeps (inr risen) (inr (
        check_text dir,
        told_map (λ held. IsStoreOf held dir) (λ held. IsCheckText held (check_text dir)) (site.reads x)
            (λ held is. inl (dir, is, refl)) stands,
        text,
      )))
  checked_so x z dir outcome stands keeps (nothing is quiet) = subst (Checks x z) (sym is)
      (checked_memory x z keeps quiet)

  pub checked_told : (x y z : S) (dir : Directory) (outcome : Outcome) → OnlyLooks site x y
      → IfSome (site.reads x) (λ held. IsStoreOf held dir)
      → SaysUnless site y z (check_text dir) Done outcome → Checks x z outcome
  checked_told x y z dir outcome looks stands said =
      let telling = telling_by site x y z (check_text dir) Done outcome looks said in
      checked_so x z dir outcome stands telling.slots telling.ends

  -- ---- the slots represent none

  checked_not : (x z : S) (outcome : Outcome) → KeepsSlots site x z → Ends site x z outcome → Checks x z outcome
  checked_not x z outcome keeps (refused is none) = subst (Checks x z) (sym is) (
    record {
      done = λ no. absurd cc;
      no_store = λ _. none;
      complete = λ stands _. absurd (never_refused none.fault (site.reads x) stands none.store);
      refuses = λ _ _. inl refl;
      partly = λ no. absurd cc;
      quiet = λ no. absurd cc;
      slots = keeps;
      only = tt;
    },
    λ no. absurd cc,
  )
  checked_not x z outcome keeps (failed is risen said) = subst (Checks x z) (sym is)
      (checked_failed x z keeps risen (partly_said site IsCheckText x z (λ held why is. inr (why, is, refl)) said))
  checked_not x z outcome keeps (stopped is quiet) = subst (Checks x z) (sym is) (checked_memory x z keeps quiet)

  -- no store was opened, for whatever reason
  pub checked_by : (x y z : S) (why : OpenFault) (outcome : Outcome) → OnlyLooks site x y
      → IfSome (site.reads x) (λ held. IsOpenedAs held (Err why))
      → (why ≡ fault.Site → HasRisen (site.slot_faults x) (site.slot_faults y)) → Refused site y z why outcome
      → Checks x z outcome
  checked_by x y z why outcome looks opened risen said =
      let refusal = refusal_by site x y z why outcome looks opened risen said in
      checked_not x z outcome refusal.slots refusal.ends
