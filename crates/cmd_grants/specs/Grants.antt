-- What `adsd grants` does.
use Rattle.std.specs.Prelude.{◌≡◌, ◌⊎◌, ℕ, List, Option, Some, IfSome}
use Rattle.site_io.specs.Disk.{Images}
use Rattle.site_io.specs.Told.{StaysTold}
use Rattle.site_io.specs.declared.source.Source.{Ghosts as SourceGhosts}
use Rattle.site_io.specs.declared.site.Site.{Ghosts as SiteGhosts}
use Rattle.ad_ldap.specs.declared.requests.Message.{Message}
use Rattle.ad_dir_model.specs.Directory.{Directory}
use Rattle.ad_rows_write.specs.Rows.{IsStoreOf}
use Rattle.cmd_store_open.specs.EngineWords.{Refuses}
use Rattle.cmd_store_open.specs.EngineWords.{OpenFault}
use Rattle.ad_ldifmod.specs.declared.fault.GrantKind.{GrantKind}
use Rattle.ad_ldifmod.specs.declared.fault.GrantFault.TheVariants.{Bad}
use Rattle.cmd_call.specs.declared.outcome.Outcome.{Outcome}
use Rattle.cmd_call.specs.declared.outcome.Outcome.TheVariants.{Done, NotOfForm, NoStore, SourceFailed}
use Rattle.cmd_call.specs.declared.outcome.Outcome.TheVariants.{SiteFailed, NoMemory}
use Rattle.cmd_call.specs.Call.{IsTold}
use Rattle.cmd_call.specs.Outcome.{IsOfLoad}
use Rattle.cmd_call.specs.Store.{Emits, EmitsPart, KeepsSlots, IsSiteHealthy, IsAllHealthy}
use Rattle.cmd_store_open.specs.Opened.{NoDirStore, IsNoStore}
use Rattle.cmd_store_open.specs.Lines.{store_line}
use Rattle.cmd_grants.specs.Frames.{frames_of}
use Rattle.cmd_grants.specs.Lines.{given_by, grant_line, text_for, outcome_for}
use Rattle.cmd_grants.specs.Given.{GivesMessages, GoesWrong}

-- what may be emitted for the slots and an input: the frames of its messages, or the line of its fault; and for
-- slots that represent no directory the line that says why
abbrev pub IsTextFor : Option (List ℕ) → Images → List ℕ → Type 0
IsTextFor rest held text = ((dir : Directory) × IsStoreOf held dir
    × IfSome rest (λ input. text ≡ text_for (given_by dir input)))
    ⊎ ((fault : OpenFault) × Refuses held fault × (text ≡ store_line fault))

module _ {I S : Type 0} (source : SourceGhosts I) (site : SiteGhosts S) where
  -- The store represents a directory, and exactly the frames of the messages that the input gives were emitted.
  pub record IsGiven (from to : I) (old new : S) : Type 0 where
    pub dir : Directory
    pub store : IfSome (site.reads old) (λ held. IsStoreOf held dir)
    pub messages : List Message
    pub input : GivesMessages dir (source.rest from) (source.rest to) messages
    pub frames : Emits (site.emitted old) (site.emitted new) (frames_of messages)

  -- The store represents a directory, and the line that says where the input goes wrong, and why, was emitted.
  pub record IsRefused (from to : I) (old new : S) : Type 0 where
    pub dir : Directory
    pub store : IfSome (site.reads old) (λ held. IsStoreOf held dir)
    pub line : ℕ
    pub kind : GrantKind
    pub input : GoesWrong dir (source.rest from) (source.rest to) line kind
    pub text : Emits (site.emitted old) (site.emitted new) (grant_line (Bad line kind))

  -- The site failed, or memory ran out: nothing was emitted, or a prefix of a text for the slots and the input.
  abbrev pub IsPartlyGiven : I → S → S → Type 0
  IsPartlyGiven from old new = StaysTold (site.emitted old) (site.emitted new)
      ⊎ ((text : List ℕ) × IfSome (site.reads old) (λ held. IsTextFor (source.rest from) held text)
      × EmitsPart (site.emitted old) (site.emitted new) text)

  pub record GrantsDoes (from to : I) (old new : S) (outcome : Outcome) : Type 0 where
    pub done : outcome ≡ Done → IsGiven from to old new
    pub refused : outcome ≡ NotOfForm → IsRefused from to old new
    -- without a directory nothing is read
    pub no_store : outcome ≡ NoStore → IsNoStore site old new × (to ≡ from)
    -- messages are given where the input gives some and is refused where it goes wrong, and never the other way
    pub exact : (dir : Directory) (input : List ℕ) → IsTold (λ held. IsStoreOf held dir) (site.reads old)
        → source.rest from ≡ Some input
        → (outcome ≡ Done) ⊎ (outcome ≡ NotOfForm) → outcome ≡ outcome_for (given_by dir input)
    -- and one of the two comes, unless something fails outside or memory runs out
    pub complete : (dir : Directory) (input : List ℕ) → IsTold (λ held. IsStoreOf held dir) (site.reads old)
        → source.rest from ≡ Some input
        → IsAllHealthy source site from to old new → (outcome ≡ outcome_for (given_by dir input)) ⊎ (outcome ≡ NoMemory)
    -- slots that represent no directory are refused, unless the site fails or memory runs out
    pub stands : IsTold NoDirStore (site.reads old) → IsSiteHealthy site old new → (outcome ≡ NoStore)
        ⊎ (outcome ≡ NoMemory)
    pub partly : (outcome ≡ SiteFailed) ⊎ (outcome ≡ NoMemory) → IsPartlyGiven from old new
    pub quiet : outcome ≡ SourceFailed → StaysTold (site.emitted old) (site.emitted new)
    -- no slot is written, whatever comes
    pub slots : KeepsSlots site old new
    pub only : IsOfLoad outcome
