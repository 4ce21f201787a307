-- A comparison, from what the slots of two stores are opened as and from what was emitted.
use Rattle.std.proofs.Common.{◌≡◌, ◌⊎◌, inl, inr, ℕ, Bool, true, false, List, Err, refl}
use Rattle.std.proofs.Common.{sym, subst, arith}
use Rattle.std.specs.Option.{IfSome}
use Rattle.site_io.specs.Counts.{HasRisen}
use Rattle.site_io.specs.Told.{StaysTold}
use Rattle.site_io.specs.Outside.{OnlyLooks}
use Rattle.site_io.specs.declared.site.Site.{Ghosts as SiteGhosts}
use Rattle.ad_dir_model.specs.Directory.{Directory}
use Rattle.ad_rows_write.specs.Rows.{IsStoreOf}
use Rattle.ad_engine_store.specs.Opening.{is_outside}
use Rattle.cmd_call.specs.Call.{IsTold}
use Rattle.cmd_call.specs.Store.{HasFailed, KeepsSlots, Emits}
use Rattle.cmd_call.specs.declared.outcome.Outcome.{Outcome}
use Rattle.cmd_call.specs.declared.outcome.Outcome.TheVariants.{NoStore, SiteFailed, NoMemory}
use Rattle.cmd_call.proofs.Moments.{stays_same, looks_keep, goes_not, IsLawful}
use Rattle.cmd_call.proofs.Telling.{Tells, whole, part, nothing, telling_by, unhealthy}
use Rattle.cmd_store_open.specs.EngineWords.{Refuses, IsOpenedAs, OpenFault}
use Rattle.cmd_store_open.specs.OpenFaults as slots
use Rattle.cmd_store_open.specs.Opened.{IsDirStore, NoDirStore}
use Rattle.cmd_store_open.proofs.Refusing.{inside, never_refused, stands_clash, same_dir}
use Rattle.cmd_store_open.proofs.Refusing.{LineEnds, line_said, site_lost, short, line_refusal}
use Rattle.cmd_store_open.specs.Answered.{outcome_of}
use Rattle.cmd_store_open.specs.Refused.{RefusedAs}
use Rattle.cmd_diff.specs.Lines.{first_word, second_word, first_line, second_line}
use Rattle.cmd_diff.specs.Compares.{Question, IsFirst, IsSecond, IsNoFirst, IsNoSecond, IsPartlyCompared}
use Rattle.cmd_diff.specs.Compares.{AreHealthy, ComparesDoes}
use Rattle.cmd_diff.specs.Steps.{TellsOf, ComparesBeside}

-- a site that isn't called
pub looks_not : {S : Type 0} (site : SiteGhosts S) → IsLawful site → (x : S) → OnlyLooks site x x
looks_not site law x = record {
  held = stays_same (site.reads x);
  output = stays_same (site.emitted x);
  moments = goes_not site x;
  images = λ t images out le left. let here : t ≡ site.now x = omega (arith, le, law.until x t images out left) in
      subst (λ k. site.left x k images out) here left;
  never_falls = omega arith;
  out_faults = refl;
}

-- no two directories are both answered and refused
abbrev pub Excludes : Question → Type 0
Excludes asks = (first second : Directory) (answer line : List ℕ) → asks first second true answer
    → asks first second false line → ⊥

module _ {S T : Type 0} (site : SiteGhosts S) (other : SiteGhosts T) (asks : Question) (excludes : Excludes asks) where
  -- one of the two sites failed
  abbrev pub OneFailed : S → S → T → T → Type 0
  OneFailed x z u w = HasFailed site x z ⊎ HasRisen (other.slot_faults u) (other.slot_faults w)

  -- what the command did, and that a failure has its cause
  abbrev pub Compares : S → S → T → T → Outcome → Type 0
  Compares x z u w outcome = ComparesDoes site other asks x z u w outcome × (outcome ≡ SiteFailed → OneFailed x z u w)

  sick : (x z : S) (u w : T) → OneFailed x z u w → AreHealthy site other x z u w → ⊥
  sick x z u w (inl failed) healthy = unhealthy site x z failed healthy.first
  sick x z u w (inr risen) healthy = healthy.second risen

  -- nothing was emitted, for want of memory
  no_memory : (x z : S) (u w : T) → KeepsSlots site x z → OnlyLooks other u w
      → StaysTold (site.emitted x) (site.emitted z) → Compares x z u w NoMemory
  no_memory x z u w keeps looks quiet = (
    record {
      done = λ no. absurd cc;
      no_object = λ no. absurd cc;
      no_store = λ no. absurd cc;
      complete = λ _ _ _ _ _ _ no. absurd cc;
      misses = λ _ _ _ _ _ _ no. absurd cc;
      answers = λ _ _ _. inr (inr refl);
      refuses = λ _ _. inr refl;
      partly = λ no. absurd cc;
      quiet = λ _. quiet;
      slots = keeps;
      other_looks = looks;
      only = tt;
    },
    λ no. absurd cc,
  )

  -- a site failed
  one_failed : (x z : S) (u w : T) → KeepsSlots site x z → OnlyLooks other u w → OneFailed x z u w
      → IsPartlyCompared site other asks x z u → Compares x z u w SiteFailed
  one_failed x z u w keeps looks cause partly = (
    record {
      done = λ no. absurd cc;
      no_object = λ no. absurd cc;
      no_store = λ no. absurd cc;
      complete = λ _ _ _ _ _ _ no. absurd cc;
      misses = λ _ _ _ _ _ _ no. absurd cc;
      answers = λ _ _ healthy. absurd (sick x z u w cause healthy);
      refuses = λ _ healthy. absurd (sick x z u w cause healthy);
      partly = λ _. partly;
      quiet = λ no. absurd cc;
      slots = keeps;
      other_looks = looks;
      only = tt;
    },
    λ _. cause,
  )

  -- ---- both stores represent a directory

  -- neither is refused
  never_none : (x : S) (u : T) (first second : Directory) → IsFirst site other x first → IsSecond site other u second
      → IsTold NoDirStore (site.reads x) ⊎ IsTold NoDirStore (other.reads u) → ⊥
  never_none x u first second is_first is_second (inl none) = stands_clash first (site.reads x) is_first none
  never_none x u first second is_first is_second (inr none) = stands_clash second (other.reads u) is_second none

  -- what is said of two directories is said of those that the stores represent
  of_these : (x : S) (u : T) (first second a b : Directory) (answered : Bool) (text : List ℕ)
      → IsFirst site other x first → IsSecond site other u second → IsTold (λ held. IsStoreOf held a) (site.reads x)
      → IsTold (λ held. IsStoreOf held b) (other.reads u) → asks a b answered text → asks first second answered text
  of_these x u first second a b answered text is_first is_second is_a is_b said =
      let here = subst (λ (d : Directory). asks d b answered text) (same_dir (site.reads x) a first is_a is_first) said
      in
      subst (λ (d : Directory). asks first d answered text) (same_dir (other.reads u) b second is_b is_second) here

  -- what they tell was emitted
  all_told : (x z : S) (u w : T) (first second : Directory) (answered : Bool) (text : List ℕ)
      → asks first second answered text → IsFirst site other x first → IsSecond site other u second
      → KeepsSlots site x z → OnlyLooks other u w → Emits (site.emitted x) (site.emitted z) text
      → Compares x z u w (outcome_of answered)
  all_told x z u w first second true text told is_first is_second keeps looks emitted = (
    record {
      done = λ _. record {
        first = first;
        second = second;
        first_store = is_first;
        second_store = is_second;
        text = text;
        told = told;
        emitted = emitted;
      };
      no_object = λ no. absurd cc;
      no_store = λ no. absurd cc;
      complete = λ _ _ _ _ _ _ no. absurd cc;
      misses = λ a b line is_a is_b none _. excludes first second text line told
          (of_these x u first second a b false line is_first is_second is_a is_b none);
      answers = λ _ _ _. inl refl;
      refuses = λ none _. absurd (never_none x u first second is_first is_second none);
      partly = λ no. absurd cc;
      quiet = λ no. absurd cc;
      slots = keeps;
      other_looks = looks;
      only = tt;
    },
    λ no. absurd cc,
  )
  all_told x z u w first second false text told is_first is_second keeps looks emitted = (
    record {
      done = λ no. absurd cc;
      no_object = λ _. record {
        first = first;
        second = second;
        first_store = is_first;
        second_store = is_second;
        text = text;
        told = told;
        emitted = emitted;
      };
      no_store = λ no. absurd cc;
      complete = λ a b answer is_a is_b some _. excludes first second answer text
          (of_these x u first second a b true answer is_first is_second is_a is_b some) told;
      misses = λ _ _ _ _ _ _ no. absurd cc;
      answers = λ _ _ _. inr (inl refl);
      refuses = λ none _. absurd (never_none x u first second is_first is_second none);
      partly = λ no. absurd cc;
      quiet = λ no. absurd cc;
      slots = keeps;
      other_looks = looks;
      only = tt;
    },
    λ no. absurd cc,
  )

  told_so : (x z : S) (u w : T) (first second : Directory) (answered : Bool) (text : List ℕ) (outcome : Outcome)
      → asks first second answered text → IsFirst site other x first → IsSecond site other u second
      → KeepsSlots site x z → OnlyLooks other u w → Tells site x z text (outcome_of answered) outcome
      → Compares x z u w outcome
  told_so x z u w first second answered text outcome told is_first is_second keeps looks (whole is emitted) =
      subst (Compares x z u w) (sym is)
      (all_told x z u w first second answered text told is_first is_second keeps looks emitted)
  told_so x z u w first second answered text outcome told is_first is_second keeps looks (part is risen emitted) =
      subst (Compares x z u w) (sym is) (one_failed x z u w keeps looks (inl (inr risen))
      (inr (text, inl (first, second, answered, is_first, is_second, told), emitted)))
  told_so x z u w first second answered text outcome told is_first is_second keeps looks (nothing is quiet) =
      subst (Compares x z u w) (sym is) (no_memory x z u w keeps looks quiet)

  of_told : (x y z : S) (u w : T) (first second : Directory) (outcome : Outcome) → OnlyLooks site x y
      → IsFirst site other x first → IsSecond site other u second → OnlyLooks other u w
      → TellsOf site asks first second y z outcome → Compares x z u w outcome
  of_told x y z u w first second outcome looks is_first is_second apart (inl (answered, text, told, said)) =
      let telling = telling_by site x y z text (outcome_of answered) outcome looks said in
      told_so x z u w first second answered text outcome told is_first is_second telling.slots apart telling.ends
  of_told x y z u w first second outcome looks is_first is_second apart (inr memory) =
      subst (λ (s : S). Compares x s u w outcome) (sym memory.1) (subst (Compares x y u w) (sym memory.0)
      (no_memory x y u w (looks_keep site x y looks) apart looks.output))

  -- ---- one represents none

  never_either : (x z : S) (u : T) → IsNoFirst site other x z ⊎ IsNoSecond site other x z u
      → IsTold IsDirStore (site.reads x) → IsTold IsDirStore (other.reads u) → ⊥
  never_either x z u (inl none) first second = never_refused none.fault (site.reads x) first none.store
  never_either x z u (inr none) first second = never_refused none.fault (other.reads u) second none.store

  refused_so : (x z : S) (u w : T) → KeepsSlots site x z → OnlyLooks other u w
      → IsNoFirst site other x z ⊎ IsNoSecond site other x z u → Compares x z u w NoStore
  refused_so x z u w keeps looks none = (
    record {
      done = λ no. absurd cc;
      no_object = λ no. absurd cc;
      no_store = λ _. none;
      complete = λ _ _ _ _ _ _ no. absurd cc;
      misses = λ _ _ _ _ _ _ no. absurd cc;
      answers = λ first second _. absurd (never_either x z u none first second);
      refuses = λ _ _. inl refl;
      partly = λ no. absurd cc;
      quiet = λ no. absurd cc;
      slots = keeps;
      other_looks = looks;
      only = tt;
    },
    λ no. absurd cc,
  )

  -- the first one
  first_said : (x z : S) (u w : T) (fault : OpenFault) (outcome : Outcome) → KeepsSlots site x z → OnlyLooks other u w
      → is_outside fault ≡ false → IfSome (site.reads x) (λ held. Refuses held fault)
      → Tells site x z (first_line fault) NoStore outcome → Compares x z u w outcome
  first_said x z u w fault outcome keeps apart within none (whole is line) = subst (Compares x z u w) (sym is)
      (refused_so x z u w keeps apart
      (inl (record { fault = fault; inside = within; store = none; line = line })))
  first_said x z u w fault outcome keeps apart within none (part is risen line) = subst (Compares x z u w) (sym is)
      (one_failed x z u w keeps apart (inl (inr risen))
      (inr (first_line fault, inr (inl (fault, none, refl)), line)))
  first_said x z u w fault outcome keeps apart within none (nothing is quiet) = subst (Compares x z u w) (sym is)
      (no_memory x z u w keeps apart quiet)

  first_ends : (x y z : S) (u w : T) (fault : OpenFault) (outcome : Outcome) → KeepsSlots site x z
      → OnlyLooks other u w → IfSome (site.reads x) (λ held. IsOpenedAs held (Err fault))
      → (fault ≡ slots.Site → HasRisen (site.slot_faults x) (site.slot_faults y))
      → LineEnds site x y z (first_line fault) fault outcome → Compares x z u w outcome
  first_ends x y z u w fault outcome keeps apart opened risen (line_said within line) = first_said x z u w fault outcome
      keeps apart within (inside (site.reads x) fault within opened) line
  first_ends x y z u w fault outcome keeps apart opened risen (site_lost is over same quiet) =
      subst (Compares x z u w) (sym over) (one_failed x z u w keeps apart
      (inl (inl (subst (λ (s : S). HasRisen (site.slot_faults x) (site.slot_faults s)) (sym same) (risen is))))
      (inl quiet))
  first_ends x y z u w fault outcome keeps apart opened risen (short is quiet) = subst (Compares x z u w) (sym is)
      (no_memory x z u w keeps apart quiet)

  -- it was not opened, and the second one wasn't looked at
  pub by_first : (x y z : S) (u : T) (fault : OpenFault) (outcome : Outcome) → IsLawful other → OnlyLooks site x y
      → IfSome (site.reads x) (λ held. IsOpenedAs held (Err fault))
      → (fault ≡ slots.Site → HasRisen (site.slot_faults x) (site.slot_faults y))
      → RefusedAs site first_word y z fault outcome → Compares x z u u outcome
  by_first x y z u fault outcome law looks opened risen refused =
      let refusal = line_refusal site first_word x y z fault outcome looks refused in
      first_ends x y z u u fault outcome refusal.keeps (looks_not other law u) opened risen refusal.ends

  -- the second one
  second_said : (x z : S) (u w : T) (first : Directory) (fault : OpenFault) (outcome : Outcome) → KeepsSlots site x z
      → OnlyLooks other u w → IsFirst site other x first → is_outside fault ≡ false
      → IfSome (other.reads u) (λ held. Refuses held fault)
      → Tells site x z (second_line fault) NoStore outcome → Compares x z u w outcome
  second_said x z u w first fault outcome keeps apart is_first within none (whole is line) =
      subst (Compares x z u w) (sym is) (refused_so x z u w keeps apart (inr (record {
        first = first;
        first_store = is_first;
        fault = fault;
        inside = within;
        store = none;
        line = line;
      })))
  second_said x z u w first fault outcome keeps apart is_first within none (part is risen line) =
      subst (Compares x z u w) (sym is) (one_failed x z u w keeps apart (inl (inr risen))
      (inr (second_line fault, inr (inr (first, fault, is_first, none, refl)), line)))
  second_said x z u w first fault outcome keeps apart is_first within none (nothing is quiet) =
      subst (Compares x z u w) (sym is) (no_memory x z u w keeps apart quiet)

  second_ends : (x y z : S) (u w : T) (first : Directory) (fault : OpenFault) (outcome : Outcome)
      → KeepsSlots site x z → OnlyLooks other u w → IsFirst site other x first
      → (is_outside fault ≡ false → IfSome (other.reads u) (λ held. Refuses held fault))
      → (fault ≡ slots.Site → HasRisen (other.slot_faults u) (other.slot_faults w))
      → LineEnds site x y z (second_line fault) fault outcome → Compares x z u w outcome
  second_ends x y z u w first fault outcome keeps apart is_first none risen (line_said within line) =
      second_said x z u w first fault outcome keeps apart is_first within (none within) line
  second_ends x y z u w first fault outcome keeps apart is_first none risen (site_lost is over same quiet) =
      subst (Compares x z u w) (sym over) (one_failed x z u w keeps apart (inr (risen is)) (inl quiet))
  second_ends x y z u w first fault outcome keeps apart is_first none risen (short is quiet) =
      subst (Compares x z u w) (sym is) (no_memory x z u w keeps apart quiet)

  -- the first one represents a directory, whatever came of the second one
  pub by_second : (x y z : S) (u w : T) (first : Directory) (outcome : Outcome) → OnlyLooks site x y
      → IsFirst site other x first → ComparesBeside site other asks first y z u w outcome → Compares x z u w outcome
  by_second x y z u w first outcome looks is_first (inl tells) = of_told x y z u w first tells.second outcome looks
      is_first tells.store tells.looks tells.tells
  by_second x y z u w first outcome looks is_first (inr none) =
      let refusal = line_refusal site second_word x y z none.fault outcome looks none.refused in
      second_ends x y z u w first none.fault outcome refusal.keeps none.looks is_first none.store none.cause
      refusal.ends
