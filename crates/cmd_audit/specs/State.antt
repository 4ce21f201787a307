-- What a session that is run again has come to.
use Rattle.std.specs.Prelude.{Option, List, [], ◌∷◌}
use Rattle.ad_ids.specs.declared.token.Token.{Token}
use Rattle.ad_dir_model.specs.Directory.{Directory}
use Rattle.ad_frames.specs.declared.frame.Frame.{Frame}
use Rattle.ad_engine.specs.Answer.{answer}
use Rattle.ad_engine.specs.Runs.{no_tokens}

-- the directory, and the tokens of the connections
pub record State : Type 0 where
  pub directory : Directory
  pub tokens : List (Option Token)

-- after a frame
abbrev pub behind : State → Frame → State
behind state frame = record {
  directory = (answer state.directory state.tokens frame).directory;
  tokens = (answer state.directory state.tokens frame).tokens;
}

-- ---- the tokens after frames

unfoldable pub tokens_from : Directory → List (Option Token) → List Frame → List (Option Token)
tokens_from dir tokens [] = tokens
tokens_from dir tokens (frame ∷ frames) = tokens_from (answer dir tokens frame).directory
    (answer dir tokens frame).tokens frames

-- from the start
abbrev pub tokens_after : Directory → List Frame → List (Option Token)
tokens_after dir frames = tokens_from dir no_tokens frames
