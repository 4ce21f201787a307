-- The exit status of each outcome of a command.
use Rattle.std.specs.Prelude.{ℕ}
use Rattle.cmd_call.specs.declared.outcome.Outcome.{Outcome}
use Rattle.cmd_call.specs.declared.outcome.Outcome.TheVariants.{Done, NotOfForm, NoCommand, NoStore, NoObject}
use Rattle.cmd_call.specs.declared.outcome.Outcome.TheVariants.{TooMany, SourceFailed, SiteFailed, NoMemory}

abbrev pub status_of : Outcome → ℕ
status_of Done = 0
status_of NotOfForm = 1
status_of NoCommand = 2
status_of NoStore = 3
status_of NoObject = 3
status_of SourceFailed = 4
status_of SiteFailed = 5
status_of NoMemory = 6
status_of TooMany = 7

-- the command ended before it emitted anything
abbrev pub IsEarly : Outcome → Type 0
IsEarly Done = ⊥
IsEarly NotOfForm = Unit {0}
IsEarly NoCommand = ⊥
IsEarly NoStore = ⊥
IsEarly NoObject = ⊥
IsEarly TooMany = ⊥
IsEarly SourceFailed = Unit {0}
IsEarly SiteFailed = ⊥
IsEarly NoMemory = Unit {0}

-- it ended for the source or for want of memory
abbrev pub IsStopped : Outcome → Type 0
IsStopped Done = ⊥
IsStopped NotOfForm = ⊥
IsStopped NoCommand = ⊥
IsStopped NoStore = ⊥
IsStopped NoObject = ⊥
IsStopped TooMany = ⊥
IsStopped SourceFailed = Unit {0}
IsStopped SiteFailed = ⊥
IsStopped NoMemory = Unit {0}

-- it ended without having written a slot
abbrev pub WritesNothing : Outcome → Type 0
WritesNothing Done = ⊥
WritesNothing NotOfForm = Unit {0}
WritesNothing NoCommand = Unit {0}
WritesNothing NoStore = Unit {0}
WritesNothing NoObject = Unit {0}
WritesNothing TooMany = ⊥
WritesNothing SourceFailed = Unit {0}
WritesNothing SiteFailed = ⊥
WritesNothing NoMemory = Unit {0}

-- how a command over a store ends that reads no input
abbrev pub IsOfStore : Outcome → Type 0
IsOfStore Done = Unit {0}
IsOfStore NotOfForm = ⊥
IsOfStore NoCommand = ⊥
IsOfStore NoStore = Unit {0}
IsOfStore NoObject = ⊥
IsOfStore TooMany = ⊥
IsOfStore SourceFailed = ⊥
IsOfStore SiteFailed = Unit {0}
IsOfStore NoMemory = Unit {0}

-- how a command over a store ends that reads its input
abbrev pub IsOfLoad : Outcome → Type 0
IsOfLoad Done = Unit {0}
IsOfLoad NotOfForm = Unit {0}
IsOfLoad NoCommand = ⊥
IsOfLoad NoStore = Unit {0}
IsOfLoad NoObject = ⊥
IsOfLoad TooMany = ⊥
IsOfLoad SourceFailed = Unit {0}
IsOfLoad SiteFailed = Unit {0}
IsOfLoad NoMemory = Unit {0}

-- how a command over a store ends that asks for an object and reads no input
abbrev pub IsOfList : Outcome → Type 0
IsOfList Done = Unit {0}
IsOfList NotOfForm = ⊥
IsOfList NoCommand = ⊥
IsOfList NoStore = Unit {0}
IsOfList NoObject = Unit {0}
IsOfList TooMany = ⊥
IsOfList SourceFailed = ⊥
IsOfList SiteFailed = Unit {0}
IsOfList NoMemory = Unit {0}

-- how a command over a store ends that serves frames
abbrev pub IsOfServe : Outcome → Type 0
IsOfServe Done = Unit {0}
IsOfServe NotOfForm = Unit {0}
IsOfServe NoCommand = ⊥
IsOfServe NoStore = Unit {0}
IsOfServe NoObject = ⊥
IsOfServe TooMany = Unit {0}
IsOfServe SourceFailed = Unit {0}
IsOfServe SiteFailed = Unit {0}
IsOfServe NoMemory = Unit {0}

-- how a command over a store ends that asks for an object and reads its input
abbrev pub IsOfEffective : Outcome → Type 0
IsOfEffective Done = Unit {0}
IsOfEffective NotOfForm = Unit {0}
IsOfEffective NoCommand = ⊥
IsOfEffective NoStore = Unit {0}
IsOfEffective NoObject = Unit {0}
IsOfEffective TooMany = ⊥
IsOfEffective SourceFailed = Unit {0}
IsOfEffective SiteFailed = Unit {0}
IsOfEffective NoMemory = Unit {0}
