-- A message that only looks leaves the directory and the tokens as they are.
use Rattle.std.proofs.Common.{◌≡◌, ℕ, Bool, true, false, Option, None, List, Result, Ok, Err, refl, sym, ap}
use Rattle.std.specs.Prelude.{unwrap_or, if◌then◌else◌}
use Rattle.ad_ids.specs.declared.token.Token.{Token}
use Rattle.ad_ldap.specs.declared.fault.LdapFault.{LdapFault}
use Rattle.ad_ldap.specs.MessageValue.{MessageValue, OpValue, Bind, Unbind, SearchOf, ModifyOf, AddOf, DeleteOf}
use Rattle.ad_ldap.specs.MessageValue.{RenameOf, CompareOf, Abandon, Extended}
use Rattle.ad_ldap.specs.MessageReading.{message_of}
use Rattle.ad_dir_model.specs.Directory.{Directory}
use Rattle.ad_frames.specs.declared.frame.Frame.{Frame}
use Rattle.ad_frames.specs.declared.frame.FrameBody.{FrameBody}
use Rattle.ad_frames.specs.declared.frame.FrameBody.TheVariants as body
use Rattle.ad_engine_store.specs.Tokens.{token_of, without_token}
use Rattle.ad_engine_answer.specs.Messages.{op_decided, reading_decided, message_decided}
use Rattle.ad_engine.specs.Answer.{message_answered, body_answered, answer}
use Rattle.cmd_audit.specs.State.{State, behind}
use Rattle.cmd_audit.specs.Steps.{body_looks}
use Rattle.cmd_audit.specs.Tries.{looks, reading_looks, message_looks}
use Rattle.cmd_audit.proofs.Fold.{state_of}

looks_replies : (dir : Directory) (token : Token) (m : MessageValue) (op : OpValue) → looks op ≡ true
    → ((op_decided dir token m op).change ≡ None) × ((op_decided dir token m op).drops ≡ false)
looks_replies dir token m (SearchOf s) is = (refl, refl)
looks_replies dir token m (CompareOf s) is = (refl, refl)
looks_replies dir token m (ModifyOf x) is = absurd cc
looks_replies dir token m (AddOf x) is = absurd cc
looks_replies dir token m (DeleteOf x) is = absurd cc
looks_replies dir token m (RenameOf x) is = absurd cc
looks_replies dir token m Bind is = absurd cc
looks_replies dir token m Unbind is = absurd cc
looks_replies dir token m Abandon is = absurd cc
looks_replies dir token m Extended is = absurd cc

decided_looks : (dir : Directory) (token : Token) (r : Result MessageValue LdapFault) → reading_looks r ≡ true
    → ((reading_decided dir token r).change ≡ None) × ((reading_decided dir token r).drops ≡ false)
decided_looks dir token (Ok m) is = looks_replies dir token m m.op is
decided_looks dir token (Err fault) is = absurd cc

message_same : (dir : Directory) (tokens : List (Option Token)) (connection : ℕ) (bytes : List ℕ)
    → message_looks bytes ≡ true
    → ((message_answered dir tokens connection bytes).directory ≡ dir)
    × ((message_answered dir tokens connection bytes).tokens ≡ tokens)
unfolding message_looks message_decided
message_same dir tokens connection bytes is =
    let same = decided_looks dir (token_of tokens connection) (message_of bytes) is in (
      ap (λ (change : Option Directory). unwrap_or change dir) same.0,
      ap (λ (drops : Bool). if drops then without_token connection tokens else tokens) same.1,
    )

body_same : (dir : Directory) (tokens : List (Option Token)) (connection : ℕ) (b : FrameBody) → body_looks b ≡ true
    → ((body_answered dir tokens connection b).directory ≡ dir)
    × ((body_answered dir tokens connection b).tokens ≡ tokens)
body_same dir tokens connection (body.Message bytes) is = message_same dir tokens connection bytes is
body_same dir tokens connection (body.Token token) is = absurd cc
body_same dir tokens connection (body.Steps n) is = absurd cc
body_same dir tokens connection body.Run is = absurd cc

pub looked : (state : State) (frame : Frame) → body_looks frame.body ≡ true → state ≡ behind state frame
unfolding answer
looked state frame is =
    let same = body_same state.directory state.tokens frame.connection frame.body is in
    state_of state.directory _ state.tokens _ (sym same.0) (sym same.1)
