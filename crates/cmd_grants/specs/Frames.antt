-- Messages as frames of connection 0.
use Rattle.std.specs.Prelude.{ℕ, List, [], ◌∷◌, ◌++◌, length}
use Rattle.std.specs.List.{flat_map}
use Rattle.ad_bytes.specs.Numbers.{be_bytes}
use Rattle.ad_frames.specs.Kinds.{message_byte}
use Rattle.ad_ldap.specs.declared.requests.Message.{Message}
use Rattle.ad_ldap.specs.MessageValue.{message_seen}
use Rattle.ad_ldifmod_message.specs.Written.{message_bytes}

-- the kind of a message, the connection, the length of the body in four bytes, and the body
unfoldable pub frame_with : List ℕ → List ℕ
frame_with body = (message_byte ∷ 0 ∷ 0 ∷ []) ++ (be_bytes 4 (length body) ++ body)

abbrev pub frame_of : Message → List ℕ
frame_of message = frame_with (message_bytes (message_seen message))

-- one after the other
abbrev pub frames_of : List Message → List ℕ
frames_of messages = flat_map frame_of messages
