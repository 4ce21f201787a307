-- What `adsd rights` does: it asks the directory of a store who is told yes on which objects, and tells the answer.
use Rattle.std.specs.Prelude.{ℕ, List, Option}
use Rattle.site_io.specs.declared.site.Site.{Ghosts as SiteGhosts}
use Rattle.ad_rights_dir.specs.Rights.{RightsTold}
use Rattle.cmd_call.specs.declared.outcome.Outcome.{Outcome}
use Rattle.cmd_who.specs.Asks.{AsksDoes}

module _ {S : Type 0} (site : SiteGhosts S) where
  abbrev pub RightsDoes : List ℕ → Option (List ℕ) → S → S → Outcome → Type 0
  RightsDoes right base old new outcome = AsksDoes site (λ dir. RightsTold dir right base) old new outcome
