-- What frames leave in the security log.
use Rattle.std.specs.Prelude.{ℕ, suc, Bool, false, if◌then◌else◌, is_some, Option, List, [], ◌∷◌, ◌++◌}
use Rattle.std.specs.List.{flat_map}
use Rattle.std.specs.Option.{option_map_or}
use Rattle.ad_ids.specs.declared.token.Token.{Token}
use Rattle.ad_dir_model.specs.Object.{Object}
use Rattle.ad_dir_model.specs.Objects.{object_of}
use Rattle.ad_dir_model.specs.Identity.{self_sid}
use Rattle.ad_dir_model.specs.Names.{name_text}
use Rattle.ad_dir_model.specs.Directory.{Directory}
use Rattle.ad_frames.specs.declared.frame.Frame.{Frame}
use Rattle.ad_frames.specs.declared.frame.FrameBody.{FrameBody}
use Rattle.ad_frames.specs.declared.frame.FrameBody.TheVariants as body
use Rattle.ad_engine_store.specs.Tokens.{token_of}
use Rattle.ad_engine.specs.Answer.{answer}
use Rattle.ad_engine.specs.Runs.{no_tokens}
use Rattle.ad_types.specs.Path.{last_guid}
use Rattle.ad_types.specs.Tried.{TriedValue}
use Rattle.ad_audit.specs.declared.event.Event.{Event}
use Rattle.ad_audit.specs.Audited.{audited}
use Rattle.ad_audit.specs.Line.{event_line}
use Rattle.cmd_audit.specs.declared.events.Stamp.{Stamp}
use Rattle.cmd_audit.specs.Tries.{message_tries}

-- ---- what was tried of one object

-- the object is there, and its descriptor as it is stored asks for the event
unfoldable pub is_audited : Directory → Token → TriedValue → Bool
is_audited dir token t =
    option_map_or (λ (o : Object). is_some (audited o.sd token (self_sid dir t.object) t.path t.right t.success))
    (object_of dir.objects t.object) false

-- the event, with the name that the object has in this directory
abbrev pub event_of : Directory → Token → Stamp → TriedValue → Event
event_of dir token stamp t = record {
  frame = stamp.frame;
  connection = stamp.connection;
  success = t.success;
  right = t.right;
  guid = last_guid t.path;
  user = token.user;
  dn = name_text dir t.object;
}

abbrev pub lines_of_one : Directory → Token → Stamp → TriedValue → List ℕ
lines_of_one dir token stamp t = if is_audited dir token t then event_line (event_of dir token stamp t) else []

-- of all that was tried, in order
unfoldable pub lines_of : Directory → Token → Stamp → List TriedValue → List ℕ
lines_of dir token stamp tried = flat_map (lines_of_one dir token stamp) tried

-- ---- one frame, from the directory before it

abbrev pub stamp_of : ℕ → ℕ → Stamp
stamp_of number connection = record { frame = number; connection = connection }

-- a message is judged by the token of its connection; no other frame tries anything
abbrev pub body_lines : Directory → Token → Stamp → FrameBody → List ℕ
body_lines dir token stamp (body.Message bytes) = lines_of dir token stamp (message_tries dir token bytes)
body_lines dir token stamp (body.Token _) = []
body_lines dir token stamp (body.Steps _) = []
body_lines dir token stamp body.Run = []

unfoldable pub frame_lines : Directory → List (Option Token) → ℕ → Frame → List ℕ
frame_lines dir tokens number frame = body_lines dir (token_of tokens frame.connection)
    (stamp_of number frame.connection) frame.body

-- ---- all of them, one after the other; the first has this number

unfoldable pub audit_from : ℕ → Directory → List (Option Token) → List Frame → List ℕ
audit_from number dir tokens [] = []
audit_from number dir tokens (frame ∷ frames) =
    frame_lines dir tokens number frame ++ audit_from (suc number) (answer dir tokens frame).directory
    (answer dir tokens frame).tokens frames

-- from the start, where no connection has a token
abbrev pub audit_text : Directory → List Frame → List ℕ
audit_text dir frames = audit_from 1 dir no_tokens frames
