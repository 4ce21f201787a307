-- What the lines of a text give: a message each, or the first fault.
use Rattle.std.specs.Prelude.{ℕ, suc, ◌≤◌, length, Bool, true, false, if◌then◌else◌, List, [], ◌∷◌, Result, Ok}
use Rattle.std.specs.List.{AllByRecursion}
use Rattle.ad_bytes.specs.Reading.{◌>>=◌, fault_as}
use Rattle.ad_ldap.specs.declared.requests.Message.{Message}
use Rattle.ad_ldap.specs.MessageValue.{message_seen}
use Rattle.ad_ldifmod_message.specs.Written.{IsWritable, message_bytes}
use Rattle.ad_dir_model.specs.Directory.{Directory}
use Rattle.ad_ldifmod.specs.declared.fault.GrantFault.{GrantFault}
use Rattle.ad_ldifmod.specs.declared.fault.GrantFault.TheVariants as fault
use Rattle.ad_ldifmod.specs.declared.fault.Refusal.{Refusal}
use Rattle.ad_ldifmod.specs.declared.fault.Refusal.TheVariants as refusal
use Rattle.ad_ldifmod.specs.Lines.{lines_of, says_nothing}
use Rattle.ad_ldifmod.specs.Lists.{Lists, stored_list, step_of, after_step, after_line}
use Rattle.ad_ldifmod.specs.Messages.{max_message, message_of}

-- a fault at its line
abbrev pub at_line : ℕ → Refusal → GrantFault
at_line n (refusal.Bad kind) = fault.Bad n kind
at_line n refusal.Memory = fault.Memory

-- the one fault that no text has
abbrev pub is_memory : GrantFault → Bool
is_memory (fault.Bad line kind) = false
is_memory fault.Memory = true

-- The message of a line that says something: it gives the line's object the list that the object has after the line.
unfoldable pub message_by : Directory → Lists → ℕ → List ℕ → Result Message Refusal
message_by dir lists id line = step_of dir line >>= λ step. message_of id step.name (after_step step lists step.number)

-- The messages of the lines from the n-th on, of which the first has this number, where these are the lists before
-- them. Each line that says something gives one, and the first faulty line decides.
unfoldable pub messages_from : Directory → Lists → ℕ → ℕ → List (List ℕ) → Result (List Message) GrantFault
messages_from dir lists n id [] = Ok []
messages_from dir lists n id (line ∷ lines) =
    if says_nothing line then messages_from dir lists (suc n) id lines
    else (fault_as (at_line n) (message_by dir lists id line) >>= λ message.
    messages_from dir (after_line dir line lists) (suc n) (suc id) lines
    >>= λ others. Ok (message ∷ others))

-- The messages of a text, whose lines are counted from 1, as messages are. Each object's list begins as it is stored.
unfoldable pub messages_of : Directory → List ℕ → Result (List Message) GrantFault
messages_of dir text = messages_from dir (stored_list dir) 1 1 (lines_of text)

-- ---- what each message is

-- it can be written, and a frame has room for it
pub record IsOfFrame (message : Message) : Type 0 where
  pub written : IsWritable (message_seen message)
  pub fits : length (message_bytes (message_seen message)) ≤ max_message

abbrev pub AreFrames : List Message → Type 0
AreFrames messages = AllByRecursion IsOfFrame messages
