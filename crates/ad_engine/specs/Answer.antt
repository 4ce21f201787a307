-- What each frame is answered, and what it makes of the directory and of the connections' tokens.
use Rattle.std.specs.Prelude.{ℕ, if◌then◌else◌, Option, unwrap_or, List, length}
use Rattle.ad_ids.specs.declared.token.Token.{Token}
use Rattle.ad_frames.specs.declared.frame.Frame.{Frame}
use Rattle.ad_frames.specs.declared.frame.FrameBody.{FrameBody}
use Rattle.ad_frames.specs.declared.frame.FrameBody.TheVariants as body
use Rattle.ad_dir_model.specs.Directory.{Directory}
use Rattle.ad_dir_model.specs.Steps.{steps}
use Rattle.ad_dir_model.specs.Protection.{Run, protection_run}
use Rattle.ad_engine_store.specs.Settling.{steps_made}
use Rattle.ad_engine_store.specs.Tokens.{token_of, with_token, without_token}
use Rattle.ad_engine_answer.specs.Output.{token_output, reply_output, steps_output, run_output}
use Rattle.ad_engine_answer.specs.Messages.{Decision, message_decided}

-- The frame that is written, and the directory and the tokens from then on.
pub record Answered : Type 0 where
  pub output : List ℕ
  pub directory : Directory
  pub tokens : List (Option Token)

-- ---- a token: the connection has it from then on

abbrev pub token_answered : Directory → List (Option Token) → ℕ → Token → Answered
token_answered dir tokens connection token = record {
  output = token_output connection;
  directory = dir;
  tokens = with_token connection token tokens;
}

-- ---- a message, by the token of the connection

abbrev pub decided : Directory → List (Option Token) → ℕ → Decision → Answered
decided dir tokens connection d = record {
  output = reply_output connection d.reply;
  directory = unwrap_or d.change dir;
  tokens = if d.drops then without_token connection tokens else tokens;
}

abbrev pub message_answered : Directory → List (Option Token) → ℕ → List ℕ → Answered
message_answered dir tokens connection bytes = decided dir tokens connection
    (message_decided dir (token_of tokens connection) bytes)

-- ---- steps: as many as are asked for, or fewer, until nothing is pending

abbrev pub steps_answered : Directory → List (Option Token) → ℕ → ℕ → Answered
steps_answered dir tokens connection n = record {
  output = steps_output connection (steps_made n dir) (length (steps n dir).pending);
  directory = steps n dir;
  tokens = tokens;
}

-- ---- a protection run

abbrev pub ran : List (Option Token) → ℕ → Run → Answered
ran tokens connection run = record {
  output = run_output connection run.changed run.protected;
  directory = run.directory;
  tokens = tokens;
}

-- ---- any frame

abbrev pub body_answered : Directory → List (Option Token) → ℕ → FrameBody → Answered
body_answered dir tokens connection (body.Token token) = token_answered dir tokens connection token
body_answered dir tokens connection (body.Message bytes) = message_answered dir tokens connection bytes
body_answered dir tokens connection (body.Steps n) = steps_answered dir tokens connection n
body_answered dir tokens connection body.Run = ran tokens connection (protection_run dir)

unfoldable pub answer : Directory → List (Option Token) → Frame → Answered
answer dir tokens frame = body_answered dir tokens frame.connection frame.body
