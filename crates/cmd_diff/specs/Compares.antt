-- What `adsd diff` does: it asks the directories of two stores how they differ, and tells what it is answered.
use Rattle.std.specs.Prelude.{◌≡◌, ◌⊎◌, ℕ, Bool, true, false, List, IfSome}
use Rattle.site_io.specs.Counts.{HasRisen}
use Rattle.site_io.specs.Outside.{OnlyLooks}
use Rattle.site_io.specs.Told.{StaysTold}
use Rattle.site_io.specs.declared.site.Site.{Ghosts as SiteGhosts}
use Rattle.ad_dir_model.specs.Directory.{Directory}
use Rattle.ad_rows_write.specs.Rows.{IsStoreOf}
use Rattle.ad_diff.specs.Answers.{DiffTold}
use Rattle.cmd_call.specs.declared.outcome.Outcome.{Outcome}
use Rattle.cmd_call.specs.declared.outcome.Outcome.TheVariants.{Done, NoStore, NoObject, SiteFailed, NoMemory}
use Rattle.cmd_call.specs.Call.{IsTold}
use Rattle.cmd_call.specs.Outcome.{IsOfList}
use Rattle.cmd_call.specs.Store.{Emits, EmitsPart, KeepsSlots, IsSiteHealthy}
use Rattle.cmd_store_open.specs.EngineWords.{Refuses, OpenFault}
use Rattle.ad_engine_store.specs.Opening.{is_outside}
use Rattle.cmd_store_open.specs.Opened.{IsDirStore, NoDirStore}
use Rattle.cmd_diff.specs.Lines.{first_line, second_line}

-- What two directories are asked together: which texts are answers to it, and which say why there is none.
abbrev pub Question : Type 1
Question = Directory → Directory → Bool → List ℕ → Type 0

module _ {S T : Type 0} (site : SiteGhosts S) (other : SiteGhosts T) where
  -- the slots of the first site represent this directory, and those of the second one this
  abbrev pub IsFirst : S → Directory → Type 0
  IsFirst old first = IfSome (site.reads old) (λ held. IsStoreOf held first)

  abbrev pub IsSecond : T → Directory → Type 0
  IsSecond before second = IfSome (other.reads before) (λ held. IsStoreOf held second)

  -- Both stores represent a directory, and what they tell was emitted: an answer, or why there is none.
  pub record IsCompared (asks : Question) (answered : Bool) (old new : S) (before : T) : Type 0 where
    pub first : Directory
    pub second : Directory
    pub first_store : IsFirst old first
    pub second_store : IsSecond before second
    pub text : List ℕ
    pub told : asks first second answered text
    pub emitted : Emits (site.emitted old) (site.emitted new) text

  -- The first store was not opened, and the line that says why was emitted.
  pub record IsNoFirst (old new : S) : Type 0 where
    pub fault : OpenFault
    pub inside : is_outside fault ≡ false
    pub store : IfSome (site.reads old) (λ held. Refuses held fault)
    pub line : Emits (site.emitted old) (site.emitted new) (first_line fault)

  -- The first one was, and the second one wasn't.
  pub record IsNoSecond (old new : S) (before : T) : Type 0 where
    pub first : Directory
    pub first_store : IsFirst old first
    pub fault : OpenFault
    pub inside : is_outside fault ≡ false
    pub store : IfSome (other.reads before) (λ held. Refuses held fault)
    pub line : Emits (site.emitted old) (site.emitted new) (second_line fault)

  -- what may be emitted for the two stores: what their directories tell, or why one of them represents none
  abbrev pub IsTextFor : Question → S → T → List ℕ → Type 0
  IsTextFor asks old before text =
      ((first : Directory) × (second : Directory) × (answered : Bool) × IsFirst old first × IsSecond before second
      × asks first second answered text)
      ⊎ (((fault : OpenFault) × IfSome (site.reads old) (λ held. Refuses held fault) × (text ≡ first_line fault))
      ⊎ ((first : Directory) × (fault : OpenFault) × IsFirst old first
      × IfSome (other.reads before) (λ held. Refuses held fault) × (text ≡ second_line fault)))

  -- A site failed: nothing was emitted, or a prefix of the text for the two stores.
  abbrev pub IsPartlyCompared : Question → S → S → T → Type 0
  IsPartlyCompared asks old new before = StaysTold (site.emitted old) (site.emitted new)
      ⊎ ((text : List ℕ) × IsTextFor asks old before text × EmitsPart (site.emitted old) (site.emitted new) text)

  -- no fault of the first site was counted, and none of a slot of the second one
  pub record AreHealthy (old new : S) (before after : T) : Type 0 where
    pub first : IsSiteHealthy site old new
    pub second : HasRisen (other.slot_faults before) (other.slot_faults after) → ⊥

  -- What was done to the first site, from old to new, and to the second one, from before to after.
  pub record ComparesDoes (asks : Question) (old new : S) (before after : T) (outcome : Outcome) : Type 0 where
    pub done : outcome ≡ Done → IsCompared asks true old new before
    pub no_object : outcome ≡ NoObject → IsCompared asks false old new before
    pub no_store : outcome ≡ NoStore → IsNoFirst old new ⊎ IsNoSecond old new before
    -- an answer that there is is never denied, and one that there isn't is never given
    pub complete : (first second : Directory) (text : List ℕ) → IsTold (λ held. IsStoreOf held first) (site.reads old)
        → IsTold (λ held. IsStoreOf held second) (other.reads before)
        → asks first second true text
        → outcome ≡ NoObject → ⊥
    pub misses : (first second : Directory) (text : List ℕ) → IsTold (λ held. IsStoreOf held first) (site.reads old)
        → IsTold (λ held. IsStoreOf held second) (other.reads before)
        → asks first second false text
        → outcome ≡ Done → ⊥
    -- one of the two comes where both represent a directory, unless a site fails or memory runs out
    pub answers : IsTold IsDirStore (site.reads old) → IsTold IsDirStore (other.reads before)
        → AreHealthy old new before after
        → (outcome ≡ Done) ⊎ ((outcome ≡ NoObject) ⊎ (outcome ≡ NoMemory))
    -- slots of either that represent no directory are refused, unless a site fails or memory runs out
    pub refuses : IsTold NoDirStore (site.reads old) ⊎ IsTold NoDirStore (other.reads before)
        → AreHealthy old new before after
        → (outcome ≡ NoStore) ⊎ (outcome ≡ NoMemory)
    pub partly : outcome ≡ SiteFailed → IsPartlyCompared asks old new before
    pub quiet : outcome ≡ NoMemory → StaysTold (site.emitted old) (site.emitted new)
    -- no slot of either is written and nothing is emitted by the second site, whatever comes
    pub slots : KeepsSlots site old new
    pub other_looks : OnlyLooks other before after
    pub only : IsOfList outcome

  -- ---- the command

  abbrev pub DiffDoes : S → S → T → T → Outcome → Type 0
  DiffDoes old new before after outcome = ComparesDoes DiffTold old new before after outcome
