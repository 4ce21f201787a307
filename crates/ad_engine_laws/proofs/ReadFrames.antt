-- Whatever frames are read of bytes are of bytes.
use Rattle.std.proofs.Common.{ℕ, List, [], ◌∷◌, subst}
use Rattle.ad_bytes.specs.Reading.{IsBytes, SpellsEach}
use Rattle.ad_frames.specs.declared.frame.Frame.{Frame}
use Rattle.ad_frames.specs.declared.frame.FrameBody.{FrameBody}
use Rattle.ad_frames.specs.declared.frame.FrameBody.TheVariants as body
use Rattle.ad_frames.specs.Frame.{SpellsContent, SpellsFrame}
use Rattle.ad_frames.specs.Frames.{Frames, AreFrames}
use Rattle.ad_engine_laws.specs.Bytes.{IsOfBytes, HasBytes, HaveBytes}
use Rattle.ad_engine_laws.proofs.Spellings.{front_of, behind_of}

content_is : (b : FrameBody) (content : List ℕ) → SpellsContent b content → IsBytes content → IsOfBytes b
content_is (body.Token token) content s fits = tt
content_is (body.Message bytes) content s fits = subst IsBytes s fits
content_is (body.Steps n) content s fits = tt
content_is body.Run content s fits = tt

frame_is : (f : Frame) (text : List ℕ) → SpellsFrame f text → IsBytes text → HasBytes f
frame_is f text s fits =
    let a = s.text_is in
    let b = a.follows in
    let c = b.follows in
    let one : IsBytes a.behind = behind_of text a.front a.behind a.parts fits in
    let two : IsBytes b.behind = behind_of a.behind b.front b.behind b.parts one in
    let three : IsBytes c.behind = behind_of b.behind c.front c.behind c.parts two in
    content_is f.body s.content s.spelled (subst IsBytes c.follows.1 three)

each_is : (frames : List Frame) (text : List ℕ) → SpellsEach SpellsFrame frames text → IsBytes text → HaveBytes frames
each_is [] text s fits = tt
each_is (f ∷ frames) text s fits = (
  frame_is f s.front s.spelled (front_of text s.front s.behind s.parts fits),
  each_is frames s.behind s.follows (behind_of text s.front s.behind s.parts fits),
)

pub all_of_bytes : (n : ℕ) (bytes : List ℕ) (fs : Frames) → AreFrames n bytes fs → IsBytes bytes → HaveBytes fs.frames
all_of_bytes n bytes fs are fits = each_is fs.frames are.text are.spelled
    (front_of bytes are.text are.left are.parts fits)
