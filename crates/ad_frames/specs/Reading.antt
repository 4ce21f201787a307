-- How a frame is read, with the fault that stands first. A header is judged once it is there.
use Rattle.std.specs.Prelude.{◌≡◌, ℕ, nat_eq, nat_lt, nat_le, ◌++◌, ◌&&◌, Bool, List, [], ◌∷◌, Option, None, Some}
use Rattle.std.specs.Prelude.{Result, Ok, Err, if◌then◌else◌}
use Rattle.ad_bytes.specs.Reading.{Reading, ◌>>=◌, need, or_fault, fault_as}
use Rattle.ad_bytes.specs.Numbers.{byte_at, be_at, part_at}
use Rattle.ad_ids.specs.TokenReading.{token_of}
use Rattle.ad_frames.specs.declared.fault.FrameFault.{FrameFault}
use Rattle.ad_frames.specs.declared.fault.FrameFault.TheVariants as fault
use Rattle.ad_frames.specs.declared.frame.Frame.{Frame}
use Rattle.ad_frames.specs.declared.frame.FrameBody.{FrameBody}
use Rattle.ad_frames.specs.declared.frame.FrameBody.TheVariants as body
use Rattle.ad_frames.specs.declared.reading.FrameKind.{FrameKind}
use Rattle.ad_frames.specs.declared.reading.FrameKind.TheVariants as kind
use Rattle.ad_frames.specs.declared.reading.Header.{Header}
use Rattle.ad_frames.specs.Kinds.{token_byte, message_byte, steps_byte, run_byte, bytes_of_steps}
use Rattle.ad_frames.specs.Limits.{max_body, max_connections, max_steps}

abbrev pub kind_by_byte : ℕ → Option FrameKind
kind_by_byte b =
    if nat_eq b token_byte then Some kind.Token
    else if nat_eq b message_byte then Some kind.Message
    else if nat_eq b steps_byte then Some kind.Steps
    else if nat_eq b run_byte then Some kind.Run
    else None

-- or this is the fault
abbrev pub ok_or : {A : Type 0} → FrameFault → Option A → Result A FrameFault
ok_or d None = Err d
ok_or d (Some x) = Ok x

-- whether a body of this kind may have so many bytes
abbrev pub has_length : FrameKind → ℕ → Bool
has_length kind.Token n = nat_le n max_body
has_length kind.Message n = nat_le n max_body
has_length kind.Steps n = nat_eq n bytes_of_steps
has_length kind.Run n = nat_eq n 0

-- the header that seven bytes are
unfoldable pub header_of : List ℕ → Result Header FrameFault
header_of bytes = do
  byte ← or_fault fault.Truncated (byte_at bytes)
  which ← ok_or (fault.Kind byte.0) (kind_by_byte byte.0)
  connection ← or_fault fault.Truncated (be_at 2 byte.1)
  _ ← need (nat_lt connection.0 max_connections) (fault.Connection connection.0)
  len ← or_fault fault.Truncated (be_at 4 connection.1)
  _ ← need (has_length which len.0) (fault.Length len.0)
  Ok (record { kind = which; connection = connection.0; len = len.0 })

unfoldable pub header_at : List ℕ → Reading Header FrameFault
header_at bytes = do
  head ← or_fault fault.Truncated (part_at 7 bytes)
  header ← header_of head.0
  Ok (header, head.1)

-- the next header of an input, or none at its end
unfoldable pub option_header_at : List ℕ → Reading (Option Header) FrameFault
option_header_at [] = Ok (None, [])
option_header_at (b ∷ bytes) = header_at (b ∷ bytes) >>= λ h. Ok (Some h.0, h.1)

-- the next bytes, so many
unfoldable pub content_at : ℕ → List ℕ → Reading (List ℕ) FrameFault
content_at len bytes = or_fault fault.Truncated (part_at len bytes)

unfoldable pub token_at : ℕ → List ℕ → Reading FrameBody FrameFault
token_at len bytes = do
  content ← content_at len bytes
  token ← fault_as fault.Token (token_of content.0)
  Ok (body.Token token, content.1)

unfoldable pub message_at : ℕ → List ℕ → Reading FrameBody FrameFault
message_at len bytes = do
  content ← content_at len bytes
  Ok (body.Message content.0, content.1)

unfoldable pub steps_of : List ℕ → Result FrameBody FrameFault
steps_of bytes = do
  n ← or_fault fault.Truncated (be_at bytes_of_steps bytes)
  _ ← need (nat_le 1 n.0 && nat_le n.0 max_steps) (fault.Steps n.0)
  Ok (body.Steps n.0)

unfoldable pub steps_at : List ℕ → Reading FrameBody FrameFault
steps_at bytes = do
  content ← content_at bytes_of_steps bytes
  steps ← steps_of content.0
  Ok (steps, content.1)

-- the body of a frame of this kind and length
abbrev pub body_by : FrameKind → ℕ → List ℕ → Reading FrameBody FrameFault
body_by kind.Token len bytes = token_at len bytes
body_by kind.Message len bytes = message_at len bytes
body_by kind.Steps len bytes = steps_at bytes
body_by kind.Run len bytes = Ok (body.Run, bytes)

unfoldable pub frame_at : List ℕ → Reading Frame FrameFault
frame_at bytes = do
  header ← header_at bytes
  content ← body_by header.0.kind header.0.len header.1
  Ok (record { connection = header.0.connection; body = content.0 }, content.1)

-- the next frame of an input, or none at its end
abbrev pub next_of : List ℕ → Reading (Option Frame) FrameFault
next_of [] = Ok (None, [])
next_of (b ∷ bytes) = frame_at (b ∷ bytes) >>= λ f. Ok (Some f.0, f.1)

-- What was read stands before the rest, and is read so whatever follows.
pub record ReadsFront {X : Type 0} (read : List ℕ → Reading X FrameFault) (bytes : List ℕ) (x : X) (rest : List ℕ)
    : Type 0 where
  pub text : List ℕ
  pub parts : bytes ≡ text ++ rest
  pub again : (behind : List ℕ) → read (text ++ behind) ≡ Ok (x, behind)
