-- Only for private contracts and proofs: the steps of the command.
use Rattle.std.specs.Prelude.{◌≡◌, ◌⊎◌, ℕ, List, Ok}
use Rattle.site_io.specs.Counts.{HasRisen}
use Rattle.site_io.specs.declared.source.Source.{Ghosts as SourceGhosts}
use Rattle.site_io.specs.declared.site.Site.{Ghosts as SiteGhosts}
use Rattle.ad_ldap.specs.declared.requests.Message.{Message}
use Rattle.ad_dir_model.specs.Directory.{Directory}
use Rattle.ad_ldifmod.specs.Grants.{messages_of}
use Rattle.cmd_call.specs.declared.outcome.Outcome.{Outcome}
use Rattle.cmd_call.specs.declared.outcome.Outcome.TheVariants.{Done, SourceFailed}
use Rattle.cmd_call.specs.Outcome.{IsStopped}
use Rattle.cmd_grants.specs.Frames.{frames_of}
use Rattle.cmd_grants.specs.Given.{IsTextOf}
use Rattle.cmd_grants.specs.Sending.{Gives}

module _ {S : Type 0} (site : SiteGhosts S) where
  -- the text gives messages, and their frames were emitted, or a part of them
  abbrev pub AnswersText : Directory → List ℕ → S → S → Outcome → Type 0
  AnswersText dir text old new outcome = (messages : List Message) × (messages_of dir text ≡ Ok messages)
      × Gives site (frames_of messages) Done old new outcome

module _ {I S : Type 0} (source : SourceGhosts I) (site : SiteGhosts S) where
  -- The input wasn't read to its end, or memory ran out.
  pub record IsUnread (from to : I) (outcome : Outcome) : Type 0 where
    pub source_failed : outcome ≡ SourceFailed → HasRisen (source.faults from) (source.faults to)
    pub only : IsStopped outcome

  -- For a directory: the text for the input is emitted or a part of it, or nothing.
  abbrev pub AnswersIn : Directory → I → I → S → S → Outcome → Type 0
  AnswersIn dir from to old new outcome =
      ((text : List ℕ) × (next : Outcome) × IsTextOf dir (source.rest from) (source.rest to) text next
      × Gives site text next old new outcome)
      ⊎ (IsUnread from to outcome × (new ≡ old))
