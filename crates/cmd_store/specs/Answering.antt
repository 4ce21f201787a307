-- The steps of `adsd effective`.
use Rattle.std.specs.Prelude.{◌≡◌, ◌⊎◌, ℕ, Option, Some, None}
use Rattle.site_io.specs.Counts.{HasRisen}
use Rattle.site_io.specs.declared.source.Source.{Ghosts as SourceGhosts}
use Rattle.site_io.specs.declared.site.Site.{Ghosts as SiteGhosts}
use Rattle.ad_ids.specs.declared.token.Token.{Token}
use Rattle.ad_ids.specs.declared.token_fault.TokenFault.{TokenFault}
use Rattle.ad_ids.specs.declared.token_fault.TokenFault.TheVariants as fault
use Rattle.ad_dir_model.specs.Directory.{Directory}
use Rattle.ad_dsacls.specs.Effective.{effective_text}
use Rattle.cmd_call.specs.declared.outcome.Outcome.{Outcome}
use Rattle.cmd_call.specs.declared.outcome.Outcome.TheVariants.{Done, NotOfForm, NoObject, SourceFailed, NoMemory}
use Rattle.cmd_call.specs.Store.{SaysUnless}
use Rattle.cmd_call.specs.Outcome.{IsEarly}
use Rattle.cmd_store.specs.Effective.{IsTokenFor, IsNoTokenFor}
use Rattle.cmd_store.specs.List.{no_object_line}

-- how the command ends at a fault of the input
abbrev pub of_token : TokenFault → Outcome
of_token fault.Memory = NoMemory
of_token _ = NotOfForm

module _ {I S : Type 0} (source : SourceGhosts I) (site : SiteGhosts S) where
  -- The input gave no token.
  pub record IsUnanswered (from to : I) (outcome : Outcome) : Type 0 where
    pub refused : outcome ≡ NotOfForm → IsNoTokenFor (source.rest from) (source.rest to)
    pub source_failed : outcome ≡ SourceFailed → HasRisen (source.faults from) (source.faults to)
    pub only : IsEarly outcome

  -- For an object: what the token of the input may do there is emitted, or the input gave none.
  abbrev pub AnswersAt : Directory → ℕ → I → I → S → S → Outcome → Type 0
  AnswersAt dir number from to old new outcome =
      ((token : Token) × IsTokenFor (source.rest from) (source.rest to) token × SaysUnless site old new
      (effective_text dir token number) Done outcome)
      ⊎ (IsUnanswered from to outcome × (new ≡ old))

  -- and for none: that there is none
  abbrev pub AnswersFor : Directory → Option ℕ → I → I → S → S → Outcome → Type 0
  AnswersFor dir (Some number) from to old new outcome = AnswersAt dir number from to old new outcome
  AnswersFor dir None from to old new outcome = SaysUnless site old new no_object_line NoObject outcome × (to ≡ from)
