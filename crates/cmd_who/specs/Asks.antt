-- What `adsd token`, `adsd who` and `adsd can` do: each asks the directory of a store, and tells what it is answered.
use Rattle.std.specs.Prelude.{◌≡◌, ◌⊎◌, ℕ, Bool, true, false, List, Option, IfSome}
use Rattle.site_io.specs.Disk.{Images}
use Rattle.site_io.specs.Told.{StaysTold}
use Rattle.site_io.specs.declared.site.Site.{Ghosts as SiteGhosts}
use Rattle.ad_dir_model.specs.Directory.{Directory}
use Rattle.ad_rows_write.specs.Rows.{IsStoreOf}
use Rattle.cmd_store_open.specs.EngineWords.{Refuses}
use Rattle.cmd_store_open.specs.EngineWords.{OpenFault}
use Rattle.ad_who.specs.Answers.{TokenTold, WhoTold, CanTold}
use Rattle.cmd_call.specs.declared.outcome.Outcome.{Outcome}
use Rattle.cmd_call.specs.declared.outcome.Outcome.TheVariants.{Done, NoStore, NoObject, SiteFailed, NoMemory}
use Rattle.cmd_call.specs.Call.{IsTold}
use Rattle.cmd_call.specs.Outcome.{IsOfList}
use Rattle.cmd_call.specs.Store.{Emits, EmitsPart, KeepsSlots, IsSiteHealthy}
use Rattle.cmd_store_open.specs.Opened.{IsDirStore, NoDirStore, IsNoStore}
use Rattle.cmd_store_open.specs.Lines.{store_line}

-- What a directory is asked: which texts are answers to it, and which say why there is none.
abbrev pub Question : Type 1
Question = Directory → Bool → List ℕ → Type 0

-- what may be emitted for the slots: what their directory tells, or why they represent none
abbrev pub IsTextFor : Question → Images → List ℕ → Type 0
IsTextFor asks held text =
    ((dir : Directory) × (answered : Bool) × IsStoreOf held dir × asks dir answered text)
    ⊎ ((fault : OpenFault) × Refuses held fault × (text ≡ store_line fault))

module _ {S : Type 0} (site : SiteGhosts S) where
  -- The store represents a directory, and what it tells was emitted: an answer, or why there is none.
  pub record IsAsked (asks : Question) (answered : Bool) (old new : S) : Type 0 where
    pub dir : Directory
    pub store : IfSome (site.reads old) (λ held. IsStoreOf held dir)
    pub text : List ℕ
    pub told : asks dir answered text
    pub emitted : Emits (site.emitted old) (site.emitted new) text

  -- The site failed: nothing was emitted, or a prefix of the text for the slots.
  abbrev pub IsPartlyAsked : Question → S → S → Type 0
  IsPartlyAsked asks old new = StaysTold (site.emitted old) (site.emitted new)
      ⊎ ((text : List ℕ) × IfSome (site.reads old) (λ held. IsTextFor asks held text) × EmitsPart (site.emitted old)
      (site.emitted new) text)

  pub record AsksDoes (asks : Question) (old new : S) (outcome : Outcome) : Type 0 where
    pub done : outcome ≡ Done → IsAsked asks true old new
    pub no_object : outcome ≡ NoObject → IsAsked asks false old new
    pub no_store : outcome ≡ NoStore → IsNoStore site old new
    -- an answer that there is is never denied, and one that there isn't is never given
    pub complete : (dir : Directory) (text : List ℕ) → IsTold (λ held. IsStoreOf held dir) (site.reads old)
        → asks dir true text
        → outcome ≡ NoObject → ⊥
    pub misses : (dir : Directory) (text : List ℕ) → IsTold (λ held. IsStoreOf held dir) (site.reads old)
        → asks dir false text
        → outcome ≡ Done → ⊥
    -- one of the two comes where the slots represent a directory, unless the site fails or memory runs out
    pub answers : IsTold IsDirStore (site.reads old) → IsSiteHealthy site old new → (outcome ≡ Done)
        ⊎ ((outcome ≡ NoObject) ⊎ (outcome ≡ NoMemory))
    -- slots that represent no directory are refused, unless the site fails or memory runs out
    pub refuses : IsTold NoDirStore (site.reads old) → IsSiteHealthy site old new → (outcome ≡ NoStore)
        ⊎ (outcome ≡ NoMemory)
    pub partly : outcome ≡ SiteFailed → IsPartlyAsked asks old new
    pub quiet : outcome ≡ NoMemory → StaysTold (site.emitted old) (site.emitted new)
    -- no slot is written, whatever comes
    pub slots : KeepsSlots site old new
    pub only : IsOfList outcome

  -- ---- the commands

  abbrev pub TokenDoes : List ℕ → List (List ℕ) → S → S → Outcome → Type 0
  TokenDoes name sids old new outcome = AsksDoes (λ dir. TokenTold dir name sids) old new outcome

  abbrev pub WhoDoes : List ℕ → List ℕ → S → S → Outcome → Type 0
  WhoDoes right name old new outcome = AsksDoes (λ dir. WhoTold dir right name) old new outcome

  abbrev pub CanDoes : List ℕ → List ℕ → Option (List ℕ) → S → S → Outcome → Type 0
  CanDoes name right base old new outcome = AsksDoes (λ dir. CanTold dir name right base) old new outcome
