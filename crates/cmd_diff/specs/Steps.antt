-- Only for private contracts and proofs: the steps of the command.
use Rattle.std.specs.Prelude.{◌≡◌, ◌⊎◌, ℕ, Bool, false, List, IfSome}
use Rattle.site_io.specs.Counts.{HasRisen}
use Rattle.site_io.specs.Outside.{OnlyLooks}
use Rattle.site_io.specs.declared.site.Site.{Ghosts as SiteGhosts}
use Rattle.ad_dir_model.specs.Directory.{Directory}
use Rattle.ad_rows_write.specs.Rows.{IsStoreOf}
use Rattle.cmd_call.specs.declared.outcome.Outcome.{Outcome}
use Rattle.cmd_call.specs.declared.outcome.Outcome.TheVariants.{NoMemory}
use Rattle.cmd_call.specs.Store.{SaysUnless}
use Rattle.cmd_store_open.specs.EngineWords.{Refuses, OpenFault}
use Rattle.ad_engine_store.specs.Opening.{is_outside}
use Rattle.cmd_store_open.specs.OpenFaults.{Site}
use Rattle.cmd_store_open.specs.Answered.{outcome_of}
use Rattle.cmd_store_open.specs.Refused.{RefusedAs}
use Rattle.cmd_diff.specs.Lines.{second_word}
use Rattle.cmd_diff.specs.Compares.{Question}

module _ {S : Type 0} (site : SiteGhosts S) where
  -- Of two directories: what they tell is emitted, or nothing for want of memory.
  abbrev pub TellsOf : Question → Directory → Directory → S → S → Outcome → Type 0
  TellsOf asks first second old new outcome =
      ((answered : Bool) × (text : List ℕ) × asks first second answered text × SaysUnless site old new text
      (outcome_of answered) outcome)
      ⊎ ((outcome ≡ NoMemory) × (new ≡ old))

module _ {S T : Type 0} (site : SiteGhosts S) (other : SiteGhosts T) where
  -- The second store was opened, and what it tells with the directory of the first one was emitted.
  pub record TellsBoth (asks : Question) (first : Directory) (old new : S) (before after : T)
      (outcome : Outcome) : Type 0 where
    pub second : Directory
    pub store : IfSome (other.reads before) (λ held. IsStoreOf held second)
    pub looks : OnlyLooks other before after
    pub tells : TellsOf site asks first second old new outcome

  -- Or it wasn't, for whatever reason.
  pub record RefusesSecond (old new : S) (before after : T) (outcome : Outcome) : Type 0 where
    pub fault : OpenFault
    pub store : is_outside fault ≡ false → IfSome (other.reads before) (λ held. Refuses held fault)
    pub looks : OnlyLooks other before after
    pub cause : fault ≡ Site → HasRisen (other.slot_faults before) (other.slot_faults after)
    pub refused : RefusedAs site second_word old new fault outcome

  abbrev pub ComparesBeside : Question → Directory → S → S → T → T → Outcome → Type 0
  ComparesBeside asks first old new before after outcome = TellsBoth asks first old new before after outcome
      ⊎ RefusesSecond old new before after outcome
