-- A text from one change record to the next, up to its end or to the first fault.
use Rattle.std.specs.Prelude.{◌≡◌, false, List, [], ◌∷◌, ℕ, Option, Some, None, Result, Ok, Err}
use Rattle.ad_ldif.specs.declared.fault.LdifFault.{LdifFault}
use Rattle.ad_ldif.specs.declared.fault.LdifFault.TheVariants as faults
use Rattle.ad_ldif.specs.declared.change.LdifChange.{LdifChange}
use Rattle.ad_ldif.specs.Lines.{Block, lines_from, blocks}
use Rattle.ad_ldif.specs.Records.{Fault, fault}
use Rattle.ad_ldif.specs.Change.{Change, change_seen}
use Rattle.ad_ldif.specs.Changing.{change_of}
use Rattle.ad_ldif.specs.Story.{State}

-- the change records before the first fault, and that fault, if there is one
pub record Changes : Type 0 where
  pub changes : List Change
  pub stop : Option Fault

-- one record more, or the fault at which it stops
abbrev pub changed : Result Change Fault → Changes → Changes
changed (Ok c) others = record { changes = c ∷ others.changes; stop = others.stop }
changed (Err f) others = record { changes = []; stop = Some f }

unfoldable pub changes_in : List Block → Changes
changes_in [] = record { changes = []; stop = None }
changes_in (block ∷ others) = changed (change_of block) (changes_in others)

-- those of a whole text, whose first line is line 1
unfoldable pub changes : List ℕ → Changes
changes text = changes_in (blocks false (lines_from 1 text))

-- none, and none before this fault
abbrev pub no_changes : Changes
no_changes = record { changes = []; stop = None }

abbrev pub stopped_at : Fault → Changes
stopped_at f = record { changes = []; stop = Some f }

-- what a reader has still to tell
abbrev pub untold_changes : State → Changes
untold_changes state = elim state.stop [ None ↦ changes_in (blocks false state.lines) | Some f ↦ stopped_at f ]

-- What a reader answered, from the changes that it had to tell to those that it has then: the next one, the end, or
-- the fault. Want of memory may come in place of a record or a fault.
abbrev pub TellsChange : Changes → Result (Option LdifChange) LdifFault → Changes → Type 0
TellsChange before (Ok None) after = before ≡ no_changes
TellsChange before (Ok (Some c)) after = before ≡ changed (Ok (change_seen c)) after
TellsChange before (Err (faults.Bad n k)) after = before ≡ stopped_at (fault n k)
TellsChange before (Err faults.Memory) after = Unit {0}
