-- How `adsd sample` ends.
use Rattle.cmd_call.specs.declared.outcome.Outcome.{Outcome}
use Rattle.cmd_call.specs.declared.outcome.Outcome.TheVariants.{Done, NotOfForm, NoCommand, NoStore, NoObject}
use Rattle.cmd_call.specs.declared.outcome.Outcome.TheVariants.{TooMany, SourceFailed, SiteFailed, NoMemory}

abbrev pub IsOfSample : Outcome → Type 0
IsOfSample Done = Unit {0}
IsOfSample NotOfForm = Unit {0}
IsOfSample NoCommand = ⊥
IsOfSample NoStore = Unit {0}
IsOfSample NoObject = ⊥
IsOfSample TooMany = ⊥
IsOfSample SourceFailed = ⊥
IsOfSample SiteFailed = Unit {0}
IsOfSample NoMemory = Unit {0}
