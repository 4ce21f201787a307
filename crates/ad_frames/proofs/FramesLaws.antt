-- The frames of an input are the longest list of them.
use Rattle.std.proofs.Common.{◌≡◌, ℕ, zero, suc, List, [], ◌∷◌, ◌++◌, length, Ok, Err, refl, sym, ap, subst, ◌∙◌}
use Rattle.std.proofs.Common.{append_assoc, arith}
use Rattle.ad_bytes.specs.Reading.{IsBytes, Reading}
use Rattle.ad_bytes.specs.Numbers.{part_at}
use Rattle.ad_bytes.proofs.Codec.{rest_fits, none_found}
use Rattle.ad_frames.specs.declared.fault.FrameFault.{FrameFault}
use Rattle.ad_frames.specs.declared.frame.Frame.{Frame}
use Rattle.ad_frames.specs.Frame.{SpellsFrame}
use Rattle.ad_frames.specs.Reading.{header_at, frame_at}
use Rattle.ad_frames.specs.Frames.{End, Whole, Over, Bad, Frames, with_first, bad, behind_first, frames_within}
use Rattle.ad_frames.specs.Frames.{EndsSo, AreFrames}
use Rattle.ad_frames.proofs.FrameCodec.{frame_reader}

-- nothing is no frame
none_there : (f : Frame) (rest : List ℕ) → frame_at [] ≡ Ok (f, rest) → ⊥
unfolding frame_at header_at part_at
none_there f rest e = absurd cc

pub one_first : (n : ℕ) (bytes rest : List ℕ) (f : Frame) → frame_at bytes ≡ Ok (f, rest)
    → frames_within (suc n) bytes ≡ with_first f (frames_within n rest)
unfolding frames_within
one_first n [] rest f e = absurd (none_there f rest e)
one_first n (b ∷ bytes) rest f e = rw e refl

pub none_first : (n : ℕ) (bytes : List ℕ) (d : FrameFault) → frame_at bytes ≡ Err d → (bytes ≡ [] → ⊥)
    → frames_within (suc n) bytes ≡ bad
unfolding frames_within
none_first n [] d e some = absurd (some refl)
none_first n (b ∷ bytes) d e some = rw e refl

ends_more : (n count : ℕ) (left : List ℕ) (end : End) → EndsSo n count left end → EndsSo (suc n) (suc count) left end
ends_more n count left Whole e = e
ends_more n count left Over e = (ap suc e.0, e.1)
ends_more n count left Bad e = (omega (arith, e.0), e.1, e.2)

ends_less : (n count : ℕ) (left : List ℕ) (end : End) → EndsSo (suc n) (suc count) left end → EndsSo n count left end
ends_less n count left Whole e = e
ends_less n count left Over e = (omega (arith, e.0), e.1)
ends_less n count left Bad e = (omega (arith, e.0), e.1, e.2)

is_cons : (b : ℕ) (bytes : List ℕ) → b ∷ bytes ≡ [] → ⊥
is_cons b bytes e = absurd cc

by_reading : (n b : ℕ) (bytes : List ℕ) (r : Reading Frame FrameFault) → IsBytes (b ∷ bytes) → frame_at (b ∷ bytes)
    ≡ r → ((rest : List ℕ) → IsBytes rest → AreFrames n rest (frames_within n rest)) → AreFrames (suc n) (b ∷ bytes)
    (behind_first r (frames_within n))
by_reading n b bytes (Ok f) fits e others =
    let t = frame_reader.takes (b ∷ bytes) f.0 f.1 fits e in
    let o = others f.1 (rest_fits SpellsFrame (b ∷ bytes) f.0 f.1 fits t) in
    record {
      text = t.text ++ o.text;
      left = o.left;
      parts = t.parts ∙ ap (λ (r : List ℕ). t.text ++ r) o.parts ∙ sym (append_assoc t.text o.text o.left);
      spelled = record { front = t.text; behind = o.text; parts = refl; spelled = t.spelled; follows = o.spelled };
      few = omega (arith, o.few);
      ends = ends_more n (length (frames_within n f.1).frames) o.left (frames_within n f.1).end o.ends;
    }
by_reading n b bytes (Err d) fits e others =
    record {
      text = [];
      left = b ∷ bytes;
      parts = refl;
      spelled = refl;
      few = omega arith;
      ends = (
        omega arith,
        λ f text rest s parts. none_found SpellsFrame frame_at frame_reader (b ∷ bytes) d e f text
            rest s parts,
        is_cons b bytes,
      );
    }

pub are_frames : (n : ℕ) (bytes : List ℕ) → IsBytes bytes → AreFrames n bytes (frames_within n bytes)
unfolding frames_within
are_frames zero [] fits = record { text = []; left = []; parts = refl; spelled = refl; few = omega arith; ends = refl }
are_frames zero (b ∷ bytes) fits = record {
  text = [];
  left = b ∷ bytes;
  parts = refl;
  spelled = refl;
  few
      = omega arith;
  ends = (refl, is_cons b bytes);
}
are_frames (suc n) [] fits = record {
  text = [];
  left = [];
  parts = refl;
  spelled = refl;
  few = omega arith;
  ends
      = refl;
}
are_frames (suc n) (b ∷ bytes) fits = by_reading n b bytes (frame_at (b ∷ bytes)) fits refl (are_frames n)

-- what begins with no frame has a fault
no_frame : (bytes : List ℕ) (r : Reading Frame FrameFault) → IsBytes bytes → frame_at bytes ≡ r
    → ((f : Frame) (text rest : List ℕ) → SpellsFrame f text → bytes ≡ text ++ rest → ⊥) → (d : FrameFault)
    × (r ≡ Err d)
no_frame bytes (Ok f) fits e none = let t = frame_reader.takes bytes f.0 f.1 fits e
    in absurd (none f.0 t.text f.1 t.spelled t.parts)
no_frame bytes (Err d) fits e none = (d, refl)

none_within : (n : ℕ) (bytes : List ℕ) (end : End) → IsBytes bytes → EndsSo n 0 bytes end
    → record { frames = []; end = end } ≡ frames_within n bytes
unfolding frames_within
none_within n [] Whole fits e = refl
none_within n (b ∷ bytes) Whole fits e = absurd cc
none_within zero [] Over fits e = absurd (e.1 refl)
none_within zero (b ∷ bytes) Over fits e = refl
none_within (suc n) bytes Over fits e = absurd (omega (arith, e.0))
none_within zero bytes Bad fits e = absurd (omega (arith, e.0))
none_within (suc n) bytes Bad fits e =
    let fault = no_frame bytes (frame_at bytes) fits refl e.1 in
    sym (none_first n bytes fault.0 fault.1 e.2)

only : (frames : List Frame) (end : End) (n : ℕ) (bytes : List ℕ) → IsBytes bytes
    → AreFrames n bytes (record { frames = frames; end = end }) → record { frames = frames; end = end }
    ≡ frames_within n bytes
only [] end n bytes fits a =
    let left : bytes ≡ a.left = a.parts ∙ ap (λ (t : List ℕ). t ++ a.left) a.spelled in
    none_within n bytes end fits (subst (λ (l : List ℕ). EndsSo n 0 l end) (sym left) a.ends)
only (f ∷ frames) end zero bytes fits a = absurd (omega (arith, a.few))
only (f ∷ frames) end (suc n) bytes fits a =
    let s = a.spelled in
    let rest = s.behind ++ a.left in
    let whole : bytes ≡ s.front ++ rest = a.parts ∙ ap (λ (t : List ℕ). t ++ a.left) s.parts
    ∙ append_assoc s.front s.behind a.left in
    let read : frame_at bytes ≡ Ok (f, rest) = ap frame_at whole ∙ frame_reader.again f s.front rest s.spelled in
    let rest_is : IsBytes rest = rest_fits SpellsFrame bytes f rest fits
    (record { text = s.front; parts = whole; spelled = s.spelled }) in
    let others = only frames end n rest rest_is
    (record {
      text = s.behind;
      left = a.left;
      parts = refl;
      spelled = s.follows;
      few = omega (arith, a.few);
      ends
          = ends_less n (length frames) a.left end a.ends;
    }) in
    ap (with_first f) others ∙ sym (one_first n bytes rest f read)

pub only_frames : (n : ℕ) (bytes : List ℕ) (fs : Frames) → IsBytes bytes → AreFrames n bytes fs → fs
    ≡ frames_within n bytes
only_frames n bytes fs fits a = only fs.frames fs.end n bytes fits a
