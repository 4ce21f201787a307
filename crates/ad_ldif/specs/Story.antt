-- A text from one record to the next, up to its end or to the first fault.
use Rattle.std.specs.Prelude.{◌≡◌, ℕ, ◌<◌, ◌≤◌, length, false, List, [], ◌∷◌, Option, Some, None, Result, Ok, Err}
use Rattle.ad_ldif.specs.declared.fault.LdifFault.{LdifFault}
use Rattle.ad_ldif.specs.declared.fault.LdifFault.TheVariants as faults
use Rattle.ad_ldif.specs.declared.record.LdifRecord.{LdifRecord}
use Rattle.ad_ldif.specs.Lines.{Line, Block, physical, lines_from, blocks}
use Rattle.ad_ldif.specs.Records.{Entry, Fault, fault, entry_of, record_of}

-- the records before the first fault, and that fault, if there is one
pub record Story : Type 0 where
  pub records : List Entry
  pub stop : Option Fault

-- one record more, or the fault at which it stops
abbrev pub told : Result Entry Fault → Story → Story
told (Ok entry) story = record { records = entry ∷ story.records; stop = story.stop }
told (Err f) story = record { records = []; stop = Some f }

unfoldable pub story_of : List Block → Story
story_of [] = record { records = []; stop = None }
story_of (block ∷ others) = told (record_of block) (story_of others)

-- the story of the rest of a text, whose first line has this number
abbrev pub story_from : ℕ → List ℕ → Story
story_from n text = story_of (blocks false (lines_from n text))

-- the story of a whole text, whose first line is line 1
unfoldable pub story : List ℕ → Story
story text = story_of (blocks false (lines_from 1 text))

-- a fault's line is a physical line of the text
abbrev pub IsLineOf : List ℕ → Fault → Type 0
IsLineOf text f = (0 < f.line) × (f.line ≤ length (physical text))

-- a story that is at its end, and one that stops here
abbrev pub nothing : Story
nothing = record { records = []; stop = None }

abbrev pub stopped : Fault → Story
stopped f = record { records = []; stop = Some f }

-- ---- a reader

-- what a reader has still to read: the lines that are left; and the fault that it answered, if it did
pub record State : Type 0 where
  pub lines : List Line
  pub stop : Option Fault

-- what it has still to tell
abbrev pub untold : State → Story
untold state = elim state.stop [ None ↦ story_of (blocks false state.lines) | Some f ↦ stopped f ]

-- ---- what a call answered

-- A fault that a call answered is that of reading, unless memory ran out.
abbrev pub Fails : {Y : Type 0} → LdifFault → Result Y Fault → Type 0
Fails faults.Memory read = Unit {0}
Fails (faults.Bad n k) read = read ≡ Err (fault n k)

-- What a call answered, seen by view, is what reading gives, unless memory ran out.
abbrev pub Gives : {X Y : Type 0} → (X → Y) → Result X LdifFault → Result Y Fault → Type 0
Gives view (Ok x) read = read ≡ Ok (view x)
Gives view (Err e) read = Fails e read

-- What a reader answered, from the story that it had to tell to the one that it has then: the next record, the end,
-- or the fault. Want of memory may come in place of a record or a fault.
abbrev pub Tells : Story → Result (Option LdifRecord) LdifFault → Story → Type 0
Tells before (Ok None) after = before ≡ nothing
Tells before (Ok (Some r)) after = before ≡ told (Ok (entry_of r)) after
Tells before (Err (faults.Bad n k)) after = before ≡ stopped (fault n k)
Tells before (Err faults.Memory) after = Unit {0}
