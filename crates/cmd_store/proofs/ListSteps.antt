-- `adsd list`, from what the slots are opened as and from what was emitted.
use Rattle.std.proofs.Common.{◌≡◌, ◌∙◌, inl, inr, ℕ, List, Option, Some, None, Err, refl, sym, ap, subst}
use Rattle.std.specs.Option.{IfSome}
use Rattle.std.proofs.lemmas.Option.{none-some}
use Rattle.site_io.specs.Counts.{HasRisen}
use Rattle.site_io.specs.Disk.{Images}
use Rattle.site_io.specs.Told.{StaysTold}
use Rattle.site_io.specs.Outside.{OnlyLooks}
use Rattle.site_io.specs.declared.site.Site.{Ghosts as SiteGhosts}
use Rattle.ad_dn.specs.Value.{AreRdns}
use Rattle.ad_dir_model.specs.Directory.{Directory}
use Rattle.ad_rows_write.specs.Rows.{IsStoreOf}
use Rattle.ad_rows.proofs.Once.{one_store}
use Rattle.ad_engine_store.specs.Opening.{IsOpenedAs}
use Rattle.ad_engine_store.specs.declared.fault.OpenFault.{OpenFault}
use Rattle.ad_engine_store.specs.declared.fault.OpenFault.TheVariants as fault
use Rattle.cmd_call.specs.Call.{IsTold}
use Rattle.cmd_call.specs.Store.{HasFailed, KeepsSlots, SaysUnless, Emits}
use Rattle.cmd_call.specs.declared.outcome.Outcome.{Outcome}
use Rattle.cmd_call.specs.declared.outcome.Outcome.TheVariants.{SiteFailed, NoMemory}
use Rattle.cmd_call.proofs.Moments.{told_clash, told_map, told_meets}
use Rattle.cmd_call.proofs.Telling.{Tells, whole, part, nothing, telling_by, unhealthy}
use Rattle.cmd_store_open.specs.Opened.{IsDirStore, NoDirStore}
use Rattle.cmd_store_open.specs.Refused.{Refused}
use Rattle.cmd_store_open.proofs.Refusing.{never_with, Ends, refused, failed, stopped, refusal_by, partly_said}
use Rattle.cmd_store.specs.List.{ListDoes, IsStoreNamed, HasObject, HasNoObject, IsListText, IsPartlyListed}
use Rattle.cmd_store.specs.List.{number_named, text_for, list_text, outcome_for, list_outcome}

-- ---- one directory

one_named : (held : Images) (a b : Directory) → IsStoreNamed held a → IsStoreNamed held b → a ≡ b
one_named held a b of_a of_b = one_store held a b of_a.store of_b.store

pub clash_missing : (name : List ℕ) (dir : Directory) (r : Option Images) → IfSome r (λ held. IsStoreNamed held dir)
    → number_named dir name ≡ None
    → IsTold (HasObject name) r → ⊥
clash_missing name dir r stands none told = told_meets (HasObject name) (λ held. IsStoreNamed held dir) r
    (λ held has is. none-some has.1 (sym none ∙ ap (λ (d : Directory). number_named d name)
    (one_named held dir has.0 is has.2) ∙ has.3)) told stands

pub clash_there : (name : List ℕ) (dir : Directory) (number : ℕ) (r : Option Images)
    → IfSome r (λ held. IsStoreNamed held dir)
    → number_named dir name ≡ Some number → IsTold (HasNoObject name) r → ⊥
clash_there name dir number r stands there told = told_meets (HasNoObject name) (λ held. IsStoreNamed held dir) r
    (λ held has is. none-some number (sym has.2 ∙ ap (λ (d : Directory). number_named d name)
    (one_named held has.0 dir has.1 is) ∙ there)) told stands

pub named_on : (dir : Directory) (r : Option Images) → IfSome r (λ held. IsStoreOf held dir) → AreRdns dir.meta.suffix
    → IfSome r (λ held. IsStoreNamed held dir)
named_on dir r stands suffix = told_map (λ held. IsStoreOf held dir) (λ held. IsStoreNamed held dir) r
    (λ held is. record { store = is; suffix = suffix }) stands

-- slots that represent a directory are no others
pub stands_clash : (dir : Directory) (r : Option Images) → IfSome r (λ held. IsStoreNamed held dir)
    → IsTold NoDirStore r → ⊥
stands_clash dir r stands none = told_clash NoDirStore (λ held. IsStoreNamed held dir) r
    (λ held no named. no (dir, named.store)) none stands

-- a store with an object of the name is one of a directory
pub has_dir : (name : List ℕ) (held : Images) → HasObject name held → IsDirStore held
has_dir name held has = (has.0, has.2.store)

module _ {S : Type 0} (site : SiteGhosts S) (name : List ℕ) where
  -- what the command did, and that a failure has its cause
  abbrev pub Lists : S → S → Outcome → Type 0
  Lists old new outcome = ListDoes site name old new outcome × (outcome ≡ SiteFailed → HasFailed site old new)

  -- nothing was emitted, for want of memory
  listed_memory : (x z : S) → KeepsSlots site x z → StaysTold (site.emitted x) (site.emitted z) → Lists x z NoMemory
  listed_memory x z keeps quiet = (
    record {
      done = λ no. absurd cc;
      no_store = λ no. absurd cc;
      no_object = λ no. absurd cc;
      complete = λ _ no. absurd cc;
      misses = λ _ no. absurd cc;
      lists = λ _ _. inr refl;
      refuses = λ _ _. inr refl;
      partly = λ no. absurd cc;
      quiet = λ _. quiet;
      slots = keeps;
      only = tt;
    },
    λ no. absurd cc,
  )

  -- the site failed
  listed_failed : (x z : S) → KeepsSlots site x z → HasFailed site x z → IsPartlyListed site name x z
      → Lists x z SiteFailed
  listed_failed x z keeps cause partly = (
    record {
      done = λ no. absurd cc;
      no_store = λ no. absurd cc;
      no_object = λ no. absurd cc;
      complete = λ _ no. absurd cc;
      misses = λ _ no. absurd cc;
      lists = λ _ healthy. absurd (unhealthy site x z cause healthy);
      refuses = λ _ healthy. absurd (unhealthy site x z cause healthy);
      partly = λ _. partly;
      quiet = λ no. absurd cc;
      slots = keeps;
      only = tt;
    },
    λ _. cause,
  )

  -- ---- the store represents a directory

  -- the text for the object of the name, or for none, was emitted
  listed_whole : (x z : S) (dir : Directory) (number : Option ℕ) → number_named dir name ≡ number
      → IfSome (site.reads x) (λ held. IsStoreNamed held dir)
      → KeepsSlots site x z → Emits (site.emitted x) (site.emitted z) (text_for dir number)
      → Lists x z (outcome_for number)
  listed_whole x z dir (Some number) is stands keeps text = (
    record {
      done = λ _. record { dir = dir; store = stands; number = number; named = is; text = text };
      no_store = λ no. absurd cc;
      no_object = λ no. absurd cc;
      complete = λ _ no. absurd cc;
      misses = λ told _. clash_there name dir number (site.reads x) stands is told;
      lists = λ _ _. inl refl;
      refuses = λ none _. absurd (stands_clash dir (site.reads x) stands none);
      partly = λ no. absurd cc;
      quiet = λ no. absurd cc;
      slots = keeps;
      only = tt;
    },
    λ no. absurd cc,
  )
  listed_whole x z dir None is stands keeps line = (
    record {
      done = λ no. absurd cc;
      no_store = λ no. absurd cc;
      no_object = λ _. record { dir = dir; store = stands; none = is; line = line };
      complete = λ told _. clash_missing name dir (site.reads x) stands is told;
      misses = λ _ no. absurd cc;
      lists = λ told _. absurd (clash_missing name dir (site.reads x) stands is told);
      refuses = λ none _. absurd (stands_clash dir (site.reads x) stands none);
      partly = λ no. absurd cc;
      quiet = λ no. absurd cc;
      slots = keeps;
      only = tt;
    },
    λ no. absurd cc,
  )

  listed_so : (x z : S) (dir : Directory) (outcome : Outcome) → IfSome (site.reads x) (λ held. IsStoreNamed held dir)
      → KeepsSlots site x z
      → Tells site x z (list_text dir name) (list_outcome dir name) outcome → Lists x z outcome
  listed_so x z dir outcome stands keeps (whole is text) =
      subst (Lists x z) (sym is) (listed_whole x z dir (number_named dir name) refl stands keeps text)
  listed_so x z dir outcome stands keeps (part is risen text) = subst (Lists x z) (sym is)
      (listed_failed x z keeps (inr risen) (inr (
        list_text dir name,
        told_map (λ held. IsStoreNamed held dir) (λ held. IsListText name held (list_text dir name)) (site.reads x)
            (λ held named. inl (dir, named, refl)) stands,
        text,
      )))
  listed_so x z dir outcome stands keeps (nothing is quiet) = subst (Lists x z) (sym is) (listed_memory x z keeps quiet)

  pub listed_told : (x y z : S) (dir : Directory) (outcome : Outcome) → OnlyLooks site x y
      → IfSome (site.reads x) (λ held. IsStoreOf held dir)
      → AreRdns dir.meta.suffix → SaysUnless site y z (list_text dir name) (list_outcome dir name) outcome
      → Lists x z outcome
  listed_told x y z dir outcome looks stands suffix said =
      let telling = telling_by site x y z (list_text dir name) (list_outcome dir name) outcome looks said in
      listed_so x z dir outcome (named_on dir (site.reads x) stands suffix) telling.slots telling.ends

  -- ---- the slots represent none

  listed_not : (x z : S) (outcome : Outcome) → KeepsSlots site x z → Ends site x z outcome → Lists x z outcome
  listed_not x z outcome keeps (refused is none) = subst (Lists x z) (sym is) (
    record {
      done = λ no. absurd cc;
      no_store = λ _. none;
      no_object = λ no. absurd cc;
      complete = λ _ no. absurd cc;
      misses = λ _ no. absurd cc;
      lists = λ told _. absurd (never_with (HasObject name) (has_dir name) none.fault (site.reads x) told none.store);
      refuses = λ _ _. inl refl;
      partly = λ no. absurd cc;
      quiet = λ no. absurd cc;
      slots = keeps;
      only = tt;
    },
    λ no. absurd cc,
  )
  listed_not x z outcome keeps (failed is risen said) = subst (Lists x z) (sym is)
      (listed_failed x z keeps risen (partly_said site (IsListText name) x z (λ held why is. inr (why, is, refl)) said))
  listed_not x z outcome keeps (stopped is quiet) = subst (Lists x z) (sym is) (listed_memory x z keeps quiet)

  -- no store was opened, for whatever reason
  pub listed_by : (x y z : S) (why : OpenFault) (outcome : Outcome) → OnlyLooks site x y
      → IfSome (site.reads x) (λ held. IsOpenedAs held (Err why))
      → (why ≡ fault.Site → HasRisen (site.slot_faults x) (site.slot_faults y)) → Refused site y z why outcome
      → Lists x z outcome
  listed_by x y z why outcome looks opened risen said =
      let refusal = refusal_by site x y z why outcome looks opened risen said in
      listed_not x z outcome refusal.slots refusal.ends
