-- What a site that tells all holds between two commands, and how commands end.
use Rattle.std.specs.Prelude.{◌≡◌, ℕ, List, Some}
use Rattle.site_io.specs.declared.site.Site.{Ghosts as SiteGhosts}
use Rattle.ad_dir_model.specs.Directory.{Directory}
use Rattle.ad_rows_write.specs.Rows.{IsStoreOf}
use Rattle.cmd_call.specs.Call.{IsTold}
use Rattle.cmd_call.specs.declared.outcome.Outcome.{Outcome}
use Rattle.cmd_call.specs.declared.outcome.Outcome.TheVariants.{Done, NotOfForm, NoCommand, NoStore, NoObject}
use Rattle.cmd_call.specs.declared.outcome.Outcome.TheVariants.{TooMany, SourceFailed, SiteFailed, NoMemory}
use Rattle.cmd_store_open.specs.Opened.{EachStandsFor}

-- The slots are told, and represent this directory; so does what each crash now leaves; and this was emitted.
pub record Holds {S : Type 0} (site : SiteGhosts S) (dir : Directory) (said : List ℕ) (x : S) : Type 0 where
  pub store : IsTold (λ held. IsStoreOf held dir) (site.reads x)
  pub every_crash : EachStandsFor site dir x
  pub output : site.emitted x ≡ Some said

-- how `load` ends over empty slots where it loads nothing
abbrev pub IsUnloaded : Outcome → Type 0
IsUnloaded Done = ⊥
IsUnloaded NotOfForm = Unit {0}
IsUnloaded NoCommand = ⊥
IsUnloaded NoStore = ⊥
IsUnloaded NoObject = ⊥
IsUnloaded TooMany = ⊥
IsUnloaded SourceFailed = Unit {0}
IsUnloaded SiteFailed = Unit {0}
IsUnloaded NoMemory = Unit {0}

-- how `serve` ends where each frame of the input was answered
abbrev pub IsAnswered : Outcome → Type 0
IsAnswered Done = Unit {0}
IsAnswered NotOfForm = Unit {0}
IsAnswered NoCommand = ⊥
IsAnswered NoStore = ⊥
IsAnswered NoObject = ⊥
IsAnswered TooMany = Unit {0}
IsAnswered SourceFailed = ⊥
IsAnswered SiteFailed = ⊥
IsAnswered NoMemory = ⊥

-- and where the slots were those of a store
abbrev pub IsOpened : Outcome → Type 0
IsOpened outcome = outcome ≡ NoStore → ⊥
