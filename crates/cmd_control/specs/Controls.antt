-- What `adsd control` and `adsd reach` do: each asks the directory of a store for chains, and tells the answer.
use Rattle.std.specs.Prelude.{ℕ, List}
use Rattle.site_io.specs.declared.site.Site.{Ghosts as SiteGhosts}
use Rattle.ad_control_dir.specs.Control.{ControlTold, ReachTold}
use Rattle.cmd_call.specs.declared.outcome.Outcome.{Outcome}
use Rattle.cmd_who.specs.Asks.{AsksDoes}

module _ {S : Type 0} (site : SiteGhosts S) where
  abbrev pub ControlDoes : List ℕ → S → S → Outcome → Type 0
  ControlDoes name old new outcome = AsksDoes site (λ dir. ControlTold dir name) old new outcome

  abbrev pub ReachDoes : List ℕ → S → S → Outcome → Type 0
  ReachDoes name old new outcome = AsksDoes site (λ dir. ReachTold dir name) old new outcome
