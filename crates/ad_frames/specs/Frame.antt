-- Which bytes encode a frame.
use Rattle.std.specs.Prelude.{◌≡◌, ℕ, ◌<◌, ◌≤◌, List, [], length}
use Rattle.ad_bytes.specs.Reading.{StartsWith}
use Rattle.ad_bytes.specs.Numbers.{SpellsByte, SpellsBe, SpellsPart}
use Rattle.ad_ids.specs.Token.{SpellsToken}
use Rattle.ad_frames.specs.declared.frame.Frame.{Frame}
use Rattle.ad_frames.specs.declared.frame.FrameBody.{FrameBody}
use Rattle.ad_frames.specs.declared.frame.FrameBody.TheVariants as body
use Rattle.ad_frames.specs.Kinds.{token_byte, message_byte, steps_byte, run_byte, bytes_of_steps}
use Rattle.ad_frames.specs.Limits.{max_body, max_connections, max_steps}

abbrev pub kind_byte : FrameBody → ℕ
kind_byte (body.Token t) = token_byte
kind_byte (body.Message m) = message_byte
kind_byte (body.Steps n) = steps_byte
kind_byte body.Run = run_byte

-- the body by its kind: a token, a message as it is, four bytes of a number of steps, the most significant first,
-- or nothing
abbrev pub SpellsContent : FrameBody → List ℕ → Type 0
SpellsContent (body.Token t) text = SpellsToken t text
SpellsContent (body.Message m) text = text ≡ m
SpellsContent (body.Steps n) text = (1 ≤ n) × (n ≤ max_steps) × SpellsBe bytes_of_steps n text
SpellsContent body.Run text = text ≡ []

-- The kind, the connection in two bytes, the length of the body in four, the most significant first, and the body.
pub record SpellsFrame (f : Frame) (text : List ℕ) : Type 0 where
  pub content : List ℕ
  pub few : length content ≤ max_body
  pub connection : f.connection < max_connections
  pub spelled : SpellsContent f.body content
  pub text_is : StartsWith SpellsByte (kind_byte f.body)
      (StartsWith (SpellsBe 2) f.connection (StartsWith (SpellsBe 4) (length content)
      (SpellsPart (length content) content))) text
