-- Only for private contracts and proofs: the steps of the commands.
use Rattle.std.specs.Prelude.{◌≡◌, ◌⊎◌, ℕ, Bool, List}
use Rattle.site_io.specs.declared.site.Site.{Ghosts as SiteGhosts}
use Rattle.ad_dir_model.specs.Directory.{Directory}
use Rattle.cmd_call.specs.declared.outcome.Outcome.{Outcome}
use Rattle.cmd_call.specs.declared.outcome.Outcome.TheVariants.{NoMemory}
use Rattle.cmd_call.specs.Store.{SaysUnless}
use Rattle.cmd_store_open.specs.Answered.{outcome_of}
use Rattle.cmd_who.specs.Asks.{Question}

module _ {S : Type 0} (site : SiteGhosts S) where
  -- Of a directory: what it tells is emitted, or nothing for want of memory.
  abbrev pub TellsIn : Question → Directory → S → S → Outcome → Type 0
  TellsIn asks dir old new outcome =
      ((answered : Bool) × (text : List ℕ) × asks dir answered text × SaysUnless site old new text
      (outcome_of answered) outcome)
      ⊎ ((outcome ≡ NoMemory) × (new ≡ old))
