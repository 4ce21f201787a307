-- What `adsd sddl` finds before it emits anything.
use Rattle.std.specs.Prelude.{◌≡◌, Option, List, [], ℕ}
use Rattle.std.specs.String.{string_bytes}
use Rattle.site_io.specs.Told.{BothTold}
use Rattle.cmd_plain.specs.declared.translating.Reply.{Reply}
use Rattle.cmd_plain.specs.declared.translating.Reply.TheVariants.{Lines, Refusal}
use Rattle.cmd_plain.specs.Sddl.{Translates, Refuses, NoText}

-- the lines of the text, or the line of its refusal
abbrev pub IsReply : List ℕ → Reply → Type 0
IsReply input (Lines lines) = Translates input (string_bytes lines)
IsReply input (Refusal line) = NoText input × Refuses input (string_bytes line)

abbrev pub ReadToEnd : Reply → List ℕ → Type 0
ReadToEnd (Lines lines) behind = behind ≡ []
ReadToEnd (Refusal line) behind = Unit {0}

-- the same of the whole input
abbrev pub IsReplyFor : Option (List ℕ) → Option (List ℕ) → Reply → Type 0
IsReplyFor rest left reply = BothTold rest left (λ input behind. ReadToEnd reply behind × IsReply input reply)
