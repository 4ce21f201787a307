-- What an answer leaves as it was, and with which code a message is answered.
use Rattle.std.specs.Prelude.{◌≡◌, ℕ, List, [], Option}
use Rattle.ad_ids.specs.declared.token.Token.{Token}
use Rattle.ad_dir_model.specs.Directory.{Directory}
use Rattle.ad_engine.specs.Answer.{Answered}
use Rattle.ad_engine_answer.specs.Messages.{done}
use Rattle.ad_engine_answer.specs.Output.{reply_output}

-- The directory, with its pending list, and the tokens of all connections are those from before.
pub record LeavesAll (dir : Directory) (tokens : List (Option Token)) (a : Answered) : Type 0 where
  pub directory : a.directory ≡ dir
  pub tokens_are : a.tokens ≡ tokens

-- The message of this connection is answered by one result (RFC 4511 4.1.9) with this code, whatever it names and
-- says besides.
pub record HasCode (connection code : ℕ) (a : Answered) : Type 0 where
  pub id : ℕ
  pub tag : ℕ
  pub matched : List ℕ
  pub text : List ℕ
  pub output : a.output ≡ reply_output connection (done id tag code matched text)

-- The message is answered by success (0), which names and says nothing besides.
pub record Succeeds (connection : ℕ) (a : Answered) : Type 0 where
  pub id : ℕ
  pub tag : ℕ
  pub output : a.output ≡ reply_output connection (done id tag 0 [] [])
