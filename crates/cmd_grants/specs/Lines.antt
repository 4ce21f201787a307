-- What is emitted for a text: the frames of its messages, or a line that says which line goes wrong, and why.
use Rattle.std.specs.Prelude.{ℕ, nat_lt, if◌then◌else◌, List, [], length, codes, Result, Ok, Err}
use Rattle.ad_ldap.specs.declared.requests.Message.{Message}
use Rattle.ad_dir_model.specs.Directory.{Directory}
use Rattle.ad_ldifmod.specs.declared.fault.GrantKind.{GrantKind}
use Rattle.ad_ldifmod.specs.declared.fault.GrantKind.TheVariants.{Form, Entry, Name, TooLong}
use Rattle.ad_ldifmod.specs.declared.fault.GrantFault.{GrantFault}
use Rattle.ad_ldifmod.specs.declared.fault.GrantFault.TheVariants.{Bad, Memory}
use Rattle.ad_ldifmod.specs.Grants.{messages_of}
use Rattle.cmd_call.specs.Lines.{fault_line}
use Rattle.cmd_call.specs.declared.outcome.Outcome.{Outcome}
use Rattle.cmd_call.specs.declared.outcome.Outcome.TheVariants.{Done, NotOfForm, NoMemory}
use Rattle.cmd_grants.specs.Frames.{frames_of}

-- the most bytes of a text
unfoldable pub max_text : ℕ
max_text = 1048576

-- What a text gives: the messages of its lines, or the first fault. That of a text above its limit is at line 0.
unfoldable pub given_by : Directory → List ℕ → Result (List Message) GrantFault
given_by dir text = if nat_lt max_text (length text) then Err (Bad 0 TooLong) else messages_of dir text

abbrev pub word_of : GrantKind → List ℕ
word_of Form = codes "form"
word_of Entry = codes "entry"
word_of Name = codes "name"
word_of TooLong = codes "too long"

-- the line of a fault; want of memory has none
abbrev pub grant_line : GrantFault → List ℕ
grant_line (Bad line kind) = fault_line line (word_of kind)
grant_line Memory = []

-- what is emitted, and how the command ends then
abbrev pub text_for : Result (List Message) GrantFault → List ℕ
text_for (Ok messages) = frames_of messages
text_for (Err fault) = grant_line fault

abbrev pub outcome_for : Result (List Message) GrantFault → Outcome
outcome_for (Ok messages) = Done
outcome_for (Err (Bad line kind)) = NotOfForm
outcome_for (Err Memory) = NoMemory
