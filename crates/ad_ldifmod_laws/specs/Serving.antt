-- What is served: the frame of a token and those of messages, all of connection 0; and when each message is answered
-- 0.
use Rattle.std.specs.Prelude.{◌≡◌, Option, List, [], ◌∷◌, ℕ, map}
use Rattle.ad_ids.specs.declared.token.Token.{Token}
use Rattle.ad_frames.specs.declared.frame.Frame.{Frame}
use Rattle.ad_frames.specs.declared.frame.FrameBody.TheVariants as body
use Rattle.ad_ldap.specs.declared.requests.Message.{Message}
use Rattle.ad_ldap.specs.MessageValue.{message_seen}
use Rattle.ad_ldifmod_message.specs.Written.{message_bytes}
use Rattle.ad_dir_model.specs.Directory.{Directory}
use Rattle.ad_engine_answer.specs.Output.{reply_output}
use Rattle.ad_engine_answer.specs.Messages.{done}
use Rattle.ad_engine.specs.Answer.{answer}
use Rattle.ad_engine.specs.Runs.{no_tokens}

-- the token of the connection from here on
abbrev pub token_frame : Token → Frame
token_frame token = record { connection = 0; body = body.Token token }

-- the message, as it is written
abbrev pub message_frame : Message → Frame
message_frame message = record { connection = 0; body = body.Message (message_bytes (message_seen message)) }

-- the messages after the token
abbrev pub frames_behind : Token → List Message → List Frame
frames_behind token messages = token_frame token ∷ map message_frame messages

-- What is written where a modification is made: the response with the message's number and the code 0 (RFC 4511 4.6).
abbrev pub success_of : Message → List ℕ
success_of message = reply_output 0 (done message.id 103 0 [] [])

-- Served one after the other from here on, each of the messages is answered so.
abbrev pub SucceedFrom : Directory → List (Option Token) → List Message → Type 0
SucceedFrom dir tokens [] = Unit {0}
SucceedFrom dir tokens (message ∷ messages) =
    ((answer dir tokens (message_frame message)).output ≡ success_of message)
    × SucceedFrom (answer dir tokens (message_frame message)).directory
    (answer dir tokens (message_frame message)).tokens messages

-- The same from the start on, after the token.
abbrev pub Succeed : Directory → Token → List Message → Type 0
Succeed dir token messages =
    SucceedFrom (answer dir no_tokens (token_frame token)).directory (answer dir no_tokens (token_frame token)).tokens
    messages
