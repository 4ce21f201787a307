-- What `adsd change` finds before it emits anything.
use Rattle.std.specs.Prelude.{◌≡◌, Option, List, [], ℕ, Ok}
use Rattle.site_io.specs.Told.{BothTold}
use Rattle.cmd_change.specs.declared.changing.Reply.{Reply}
use Rattle.cmd_change.specs.declared.changing.Reply.TheVariants.{Frames, Refusal}
use Rattle.cmd_change.specs.Change.{Asks, NoChanges, Refuses}

-- the frames of the records, or the line of the refusal
abbrev pub IsReply : List ℕ → Reply → Type 0
IsReply input (Frames frames) = Asks input frames.items
IsReply input (Refusal line) = NoChanges input × Refuses input line.items

abbrev pub ReadToEnd : Reply → List ℕ → Type 0
ReadToEnd (Frames frames) behind = behind ≡ []
ReadToEnd (Refusal line) behind = Unit {0}

-- the same of the whole input
abbrev pub IsReplyFor : Option (List ℕ) → Option (List ℕ) → Reply → Type 0
IsReplyFor rest left reply = BothTold rest left (λ input behind. ReadToEnd reply behind × IsReply input reply)
