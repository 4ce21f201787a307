-- Commands with one store at most, which leave no second site to speak of.
use Rattle.std.specs.Prelude.{if◌then◌else◌, Option, Some, None, is_some}
use Rattle.site_io.specs.declared.site.Site.{Ghosts as SiteGhosts}
use Rattle.cmd_words.specs.Command.{CommandValue}
use Rattle.cmd_words.specs.Table.{other_store_of}

-- the second site where there is none
abbrev pub no_site : SiteGhosts (Unit {0})
no_site = record {
  reads = λ s. None;
  emitted = λ s. None;
  slot_faults = λ s. 0;
  out_faults = λ s. 0;
  now = λ s. 0;
  left = λ s t images out. ⊥;
  fails = λ s. None;
}

-- what the words ask for, where they name one store at most
abbrev pub over_one : Option CommandValue → Option CommandValue
over_one None = None
over_one (Some command) = if is_some (other_store_of command) then None else Some command
