-- A log of changes that several machines take in one order, and the frames that each of them is sent.
use Rattle.std.specs.Prelude.{◌≡◌, ℕ, unwrap_or, Option, List, [], ◌∷◌, ◌++◌, length}
use Rattle.ad_ids.specs.declared.token.Token.{Token}
use Rattle.ad_frames.specs.declared.frame.Frame.{Frame}
use Rattle.ad_frames.specs.declared.frame.FrameBody.TheVariants as body
use Rattle.ad_dir_model.specs.Directory.{Directory}
use Rattle.ad_dir_model.specs.Steps.{steps}
use Rattle.ad_dir_model.specs.Protection.{protection_run}
use Rattle.ad_engine.specs.Answer.{answer}
use Rattle.ad_engine.specs.Runs.{after_from}
use Rattle.ad_engine_store.specs.Settling.{steps_made}
use Rattle.ad_engine_store.specs.Tokens.{token_of}
use Rattle.ad_engine_answer.specs.Messages.{message_decided}
use Rattle.ad_engine_answer.specs.Output.{counts, token_output, output_frame}
use Rattle.ad_engine_laws.specs.Reads.{IsRead}

-- An entry of the log: a message with the token that it is judged by, a number of steps, or a protection run.
pub data LogEntry : Type 0 where
  sent : Token → List ℕ → LogEntry
  worked : ℕ → LogEntry
  protected : LogEntry

-- ---- what entries make of a directory, and what they are answered: neither connections nor other frames have a part
--  in it

unfoldable pub applied : Directory → LogEntry → Directory
applied dir (sent token bytes) = unwrap_or (message_decided dir token bytes).change dir
applied dir (worked n) = steps n dir
applied dir protected = (protection_run dir).directory

-- all of them, in the order of the log
unfoldable pub all_applied : Directory → List LogEntry → Directory
all_applied dir [] = dir
all_applied dir (entry ∷ entries) = all_applied (applied dir entry) entries

-- the messages of the reply, or two numbers
unfoldable pub answer_to : Directory → LogEntry → List ℕ
answer_to dir (sent token bytes) = (message_decided dir token bytes).reply
answer_to dir (worked n) = counts (steps_made n dir) (length (steps n dir).pending)
answer_to dir protected = counts (protection_run dir).changed (protection_run dir).protected

-- ---- as frames on a connection

-- a message's token goes directly before it
unfoldable pub frames_for : ℕ → LogEntry → List Frame
frames_for connection (sent token bytes) =
    record { connection = connection; body = body.Token token }
    ∷ record { connection = connection; body = body.Message bytes } ∷ []
frames_for connection (worked n) = record { connection = connection; body = body.Steps n } ∷ []
frames_for connection protected = record { connection = connection; body = body.Run } ∷ []

-- the frames that they are answered by
unfoldable pub output_for : ℕ → Directory → LogEntry → List ℕ
output_for connection dir (sent token bytes) = token_output connection ++ output_frame 0x82 connection
    (answer_to dir (sent token bytes))
output_for connection dir (worked n) = output_frame 0x83 connection (answer_to dir (worked n))
output_for connection dir protected = output_frame 0x84 connection (answer_to dir protected)

-- ---- what one machine is sent

-- An entry of the log with its token, on a connection that this machine chose; the message of an entry alone, on a
-- connection that has its token; or a frame of somebody who reads here.
pub data Item : Type 0 where
  taken : ℕ → LogEntry → Item
  held : ℕ → Token → List ℕ → Item
  other : Frame → Item

unfoldable pub frames_of : Item → List Frame
frames_of (taken connection entry) = frames_for connection entry
frames_of (held connection token bytes) = record { connection = connection; body = body.Message bytes } ∷ []
frames_of (other frame) = frame ∷ []

unfoldable pub frames_in : List Item → List Frame
frames_in [] = []
frames_in (item ∷ items) = frames_of item ++ frames_in items

-- the entry that it is, if it is one
unfoldable pub entries_of : Item → List LogEntry
entries_of (taken connection entry) = entry ∷ []
entries_of (held connection token bytes) = sent token bytes ∷ []
entries_of (other frame) = []

-- the entries among them, in their order
unfoldable pub entries_in : List Item → List LogEntry
entries_in [] = []
entries_in (item ∷ items) = entries_of item ++ entries_in items

-- the tokens of the connections after frames
unfoldable pub tokens_after : Directory → List (Option Token) → List Frame → List (Option Token)
tokens_after dir tokens [] = tokens
tokens_after dir tokens (frame ∷ frames) = tokens_after (answer dir tokens frame).directory
    (answer dir tokens frame).tokens frames

-- A message alone goes where the connection has its token: one that was sent before, or that of nobody, after an
-- Unbind or where none was sent. What isn't an entry of the log is no change.
abbrev pub IsSent : List (Option Token) → Item → Type 0
IsSent tokens (taken connection entry) = Unit {0}
IsSent tokens (held connection token bytes) = token_of tokens connection ≡ token
IsSent tokens (other frame) = IsRead frame

-- each at its place
unfoldable pub AreSent : Directory → List (Option Token) → List Item → Type 0
AreSent dir tokens [] = Unit {0}
AreSent dir tokens (item ∷ items) = IsSent tokens item × AreSent (after_from dir tokens (frames_of item))
    (tokens_after dir tokens (frames_of item)) items
