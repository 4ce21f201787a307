-- A question, from what the slots are opened as and from what was emitted.
use Rattle.std.proofs.Common.{◌≡◌, inl, inr, ℕ, Bool, true, false, List, Err, refl, sym, subst}
use Rattle.std.specs.Option.{IfSome}
use Rattle.site_io.specs.Counts.{HasRisen}
use Rattle.site_io.specs.Told.{StaysTold}
use Rattle.site_io.specs.Outside.{OnlyLooks}
use Rattle.site_io.specs.declared.site.Site.{Ghosts as SiteGhosts}
use Rattle.ad_dir_model.specs.Directory.{Directory}
use Rattle.ad_rows_write.specs.Rows.{IsStoreOf}
use Rattle.cmd_store_open.specs.EngineWords.{IsOpenedAs}
use Rattle.cmd_store_open.specs.EngineWords.{OpenFault}
use Rattle.cmd_store_open.specs.OpenFaults as slots
use Rattle.cmd_call.specs.Store.{HasFailed, KeepsSlots, Emits}
use Rattle.cmd_call.specs.declared.outcome.Outcome.{Outcome}
use Rattle.cmd_call.specs.declared.outcome.Outcome.TheVariants.{Done, NoStore, NoObject, SiteFailed, NoMemory}
use Rattle.cmd_call.proofs.Moments.{told_map, looks_keep}
use Rattle.cmd_call.proofs.Telling.{Tells, whole, part, nothing, telling_by, unhealthy}
use Rattle.cmd_store_open.specs.Refused.{Refused}
use Rattle.cmd_store_open.proofs.Refusing.{stands_clash, same_dir, never_refused}
use Rattle.cmd_store_open.proofs.Refusing.{Ends, refused, failed, stopped, refusal_by, partly_said}
use Rattle.cmd_who.specs.Asks.{Question, IsTextFor, IsPartlyAsked, AsksDoes}
use Rattle.cmd_store_open.specs.Answered.{outcome_of}
use Rattle.cmd_who.specs.Asking.{TellsIn}

-- no question is both answered and refused
abbrev pub Excludes : Question → Type 0
Excludes asks = (dir : Directory) (answer line : List ℕ) → asks dir true answer → asks dir false line → ⊥

module _ {S : Type 0} (site : SiteGhosts S) (asks : Question) (excludes : Excludes asks) where
  -- what the command did, and that a failure has its cause
  abbrev pub Asks : S → S → Outcome → Type 0
  Asks old new outcome = AsksDoes site asks old new outcome × (outcome ≡ SiteFailed → HasFailed site old new)

  -- nothing was emitted, for want of memory
  asked_memory : (x z : S) → KeepsSlots site x z → StaysTold (site.emitted x) (site.emitted z) → Asks x z NoMemory
  asked_memory x z keeps quiet = (
    record {
      done = λ no. absurd cc;
      no_object = λ no. absurd cc;
      no_store = λ no. absurd cc;
      complete = λ _ _ _ _ no. absurd cc;
      misses = λ _ _ _ _ no. absurd cc;
      answers = λ _ _. inr (inr refl);
      refuses = λ _ _. inr refl;
      partly = λ no. absurd cc;
      quiet = λ _. quiet;
      slots = keeps;
      only = tt;
    },
    λ no. absurd cc,
  )

  -- the site failed
  asked_failed : (x z : S) → KeepsSlots site x z → HasFailed site x z → IsPartlyAsked site asks x z
      → Asks x z SiteFailed
  asked_failed x z keeps cause partly = (
    record {
      done = λ no. absurd cc;
      no_object = λ no. absurd cc;
      no_store = λ no. absurd cc;
      complete = λ _ _ _ _ no. absurd cc;
      misses = λ _ _ _ _ no. absurd cc;
      answers = λ _ healthy. absurd (unhealthy site x z cause healthy);
      refuses = λ _ healthy. absurd (unhealthy site x z cause healthy);
      partly = λ _. partly;
      quiet = λ no. absurd cc;
      slots = keeps;
      only = tt;
    },
    λ _. cause,
  )

  -- ---- the store represents a directory

  -- what it tells was emitted
  asked_whole : (x z : S) (dir : Directory) (answered : Bool) (text : List ℕ) → asks dir answered text
      → IfSome (site.reads x) (λ held. IsStoreOf held dir) → KeepsSlots site x z
      → Emits (site.emitted x) (site.emitted z) text
      → Asks x z (outcome_of answered)
  asked_whole x z dir true text told stands keeps said = (
    record {
      done = λ _. record { dir = dir; store = stands; text = text; told = told; emitted = said };
      no_object = λ no. absurd cc;
      no_store = λ no. absurd cc;
      complete = λ _ _ _ _ no. absurd cc;
      misses = λ other line is none _. excludes dir text line told
          (subst (λ (d : Directory). asks d false line) (same_dir (site.reads x) other dir is stands) none);
      answers = λ _ _. inl refl;
      refuses = λ none _. absurd (stands_clash dir (site.reads x) stands none);
      partly = λ no. absurd cc;
      quiet = λ no. absurd cc;
      slots = keeps;
      only = tt;
    },
    λ no. absurd cc,
  )
  asked_whole x z dir false text told stands keeps said = (
    record {
      done = λ no. absurd cc;
      no_object = λ _. record { dir = dir; store = stands; text = text; told = told; emitted = said };
      no_store = λ no. absurd cc;
      complete = λ other answer is some _. excludes dir answer text
          (subst (λ (d : Directory). asks d true answer) (same_dir (site.reads x) other dir is stands) some) told;
      misses = λ _ _ _ _ no. absurd cc;
      answers = λ _ _. inr (inl refl);
      refuses = λ none _. absurd (stands_clash dir (site.reads x) stands none);
      partly = λ no. absurd cc;
      quiet = λ no. absurd cc;
      slots = keeps;
      only = tt;
    },
    λ no. absurd cc,
  )

  asked_so : (x z : S) (dir : Directory) (answered : Bool) (text : List ℕ) (outcome : Outcome) → asks dir answered text
      → IfSome (site.reads x) (λ held. IsStoreOf held dir) → KeepsSlots site x z
      → Tells site x z text (outcome_of answered) outcome → Asks x z outcome
  asked_so x z dir answered text outcome told stands keeps (whole is said) =
      subst (Asks x z) (sym is) (asked_whole x z dir answered text told stands keeps said)
  asked_so x z dir answered text outcome told stands keeps (part is risen said) = subst (Asks x z) (sym is)
      (asked_failed x z keeps (inr risen) (inr (
        text,
        told_map (λ held. IsStoreOf held dir) (λ held. IsTextFor asks held text) (site.reads x)
            (λ held store. inl (dir, answered, store, told)) stands,
        said,
      )))
  asked_so x z dir answered text outcome told stands keeps (nothing is quiet) = subst (Asks x z) (sym is)
      (asked_memory x z keeps quiet)

  pub asked_told : (x y z : S) (dir : Directory) (outcome : Outcome) → OnlyLooks site x y
      → IfSome (site.reads x) (λ held. IsStoreOf held dir)
      → TellsIn site asks dir y z outcome → Asks x z outcome
  asked_told x y z dir outcome looks stands (inl (answered, text, told, said)) =
      let telling = telling_by site x y z text (outcome_of answered) outcome looks said in
      asked_so x z dir answered text outcome told stands telling.slots telling.ends
  asked_told x y z dir outcome looks stands (inr memory) =
      subst (λ (s : S). Asks x s outcome) (sym memory.1)
      (subst (Asks x y) (sym memory.0) (asked_memory x y (looks_keep site x y looks) looks.output))

  -- ---- the slots represent none

  asked_not : (x z : S) (outcome : Outcome) → KeepsSlots site x z → Ends site x z outcome → Asks x z outcome
  asked_not x z outcome keeps (refused is none) = subst (Asks x z) (sym is) (
    record {
      done = λ no. absurd cc;
      no_object = λ no. absurd cc;
      no_store = λ _. none;
      complete = λ _ _ _ _ no. absurd cc;
      misses = λ _ _ _ _ no. absurd cc;
      answers = λ told _. absurd (never_refused none.fault (site.reads x) told none.store);
      refuses = λ _ _. inl refl;
      partly = λ no. absurd cc;
      quiet = λ no. absurd cc;
      slots = keeps;
      only = tt;
    },
    λ no. absurd cc,
  )
  asked_not x z outcome keeps (failed is risen said) = subst (Asks x z) (sym is)
      (asked_failed x z keeps risen (partly_said site (IsTextFor asks) x z (λ held why is'. inr (why, is', refl)) said))
  asked_not x z outcome keeps (stopped is quiet) = subst (Asks x z) (sym is) (asked_memory x z keeps quiet)

  -- no store was opened, for whatever reason
  pub asked_by : (x y z : S) (why : OpenFault) (outcome : Outcome) → OnlyLooks site x y
      → IfSome (site.reads x) (λ held. IsOpenedAs held (Err why))
      → (why ≡ slots.Site → HasRisen (site.slot_faults x) (site.slot_faults y)) → Refused site y z why outcome
      → Asks x z outcome
  asked_by x y z why outcome looks opened risen said =
      let refusal = refusal_by site x y z why outcome looks opened risen said in
      asked_not x z outcome refusal.slots refusal.ends
