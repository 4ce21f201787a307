-- The frames of an input, and how it ends.
use Rattle.std.specs.Prelude.{◌≡◌, ℕ, zero, suc, ◌<◌, ◌≤◌, List, [], ◌∷◌, ◌++◌, length, Ok, Err}
use Rattle.ad_bytes.specs.Reading.{Reading, SpellsEach}
use Rattle.ad_frames.specs.declared.fault.FrameFault.{FrameFault}
use Rattle.ad_frames.specs.declared.frame.Frame.{Frame}
use Rattle.ad_frames.specs.Limits.{max_frames}
use Rattle.ad_frames.specs.Frame.{SpellsFrame}
use Rattle.ad_frames.specs.Reading.{frame_at}

-- nothing is left; as many frames as there may be stand and something is left; or what is left begins with no frame
pub data End : Type 0 where
  Whole : End
  Over : End
  Bad : End

pub record Frames : Type 0 where
  pub frames : List Frame
  pub end : End

abbrev pub with_first : Frame → Frames → Frames
with_first f others = record { frames = f ∷ others.frames; end = others.end }

abbrev pub bad : Frames
bad = record { frames = []; end = Bad }

-- one frame was read, and then the others, or none was
abbrev pub behind_first : Reading Frame FrameFault → (List ℕ → Frames) → Frames
behind_first (Ok f) others = with_first f.0 (others f.1)
behind_first (Err e) others = bad

-- at most n frames
unfoldable pub frames_within : ℕ → List ℕ → Frames
frames_within n [] = record { frames = []; end = Whole }
frames_within zero (b ∷ bytes) = record { frames = []; end = Over }
frames_within (suc n) (b ∷ bytes) = behind_first (frame_at (b ∷ bytes)) (frames_within n)

-- the frames of an input
unfoldable pub frames_of : List ℕ → Frames
frames_of bytes = frames_within max_frames bytes

-- how what is left after the frames, of which there may be n, makes the end
abbrev pub EndsSo : ℕ → ℕ → List ℕ → End → Type 0
EndsSo n count left Whole = left ≡ []
EndsSo n count left Over = (count ≡ n) × (left ≡ [] → ⊥)
EndsSo n count left Bad = (count < n) × ((f : Frame) (text rest : List ℕ) → SpellsFrame f text → left ≡ text ++ rest
    → ⊥) × (left ≡ [] → ⊥)

-- The longest list of at most n frames whose encodings, joined, are a prefix of the bytes, with its end.
pub record AreFrames (n : ℕ) (bytes : List ℕ) (fs : Frames) : Type 0 where
  pub text : List ℕ
  pub left : List ℕ
  pub parts : bytes ≡ text ++ left
  pub spelled : SpellsEach SpellsFrame fs.frames text
  pub few : length fs.frames ≤ n
  pub ends : EndsSo n (length fs.frames) left fs.end
