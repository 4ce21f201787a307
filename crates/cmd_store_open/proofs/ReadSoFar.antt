-- The frames that were read so far of an input.
use Rattle.std.proofs.Common.{◌≡◌, ◌∙◌, ℕ, zero, suc, List, [], ◌∷◌, ◌++◌, Option, Some, None, Ok, Err, refl, sym, ap}
use Rattle.std.proofs.Common.{append_assoc}
use Rattle.std.proofs.lemmas.List.{append-nil}
use Rattle.ad_bytes.specs.Reading.{Reading, ◌>>=◌}
use Rattle.ad_bytes.proofs.Steps.{from_bind, from_ok}
use Rattle.ad_frames.specs.declared.fault.FrameFault.{FrameFault}
use Rattle.ad_frames.specs.declared.frame.Frame.{Frame}
use Rattle.ad_frames.specs.Limits.{max_frames}
use Rattle.ad_frames.specs.Reading.{frame_at, next_of}
use Rattle.ad_frames.specs.Frames.{Whole, Over, Frames, with_first, bad, frames_within, frames_of}
use Rattle.ad_frames.proofs.Cutting.{frame_front}
use Rattle.ad_frames.proofs.FramesLaws.{one_first, none_first}

-- these frames before others
pub with_all : List Frame → Frames → Frames
with_all [] fs = fs
with_all (f ∷ others) fs = with_first f (with_all others fs)

pub all_frames : (served : List Frame) (fs : Frames) → (with_all served fs).frames ≡ served ++ fs.frames
unfolding with_all
all_frames [] fs = refl
all_frames (f ∷ others) fs = ap (λ (l : List Frame). f ∷ l) (all_frames others fs)

pub all_end : (served : List Frame) (fs : Frames) → (with_all served fs).end ≡ fs.end
unfolding with_all
all_end [] fs = refl
all_end (f ∷ others) fs = all_end others fs

all_push : (served : List Frame) (f : Frame) (fs : Frames) → with_all served (with_first f fs)
    ≡ with_all (served ++ f ∷ []) fs
unfolding with_all
all_push [] f fs = refl
all_push (g ∷ others) f fs = ap (with_first g) (all_push others f fs)

-- These frames were read of the input, and so many more may be; they are read so whatever follows.
pub record HasRead (served : List Frame) (more : ℕ) (input rest : List ℕ) : Type 0 where
  pub text : List ℕ
  pub parts : input ≡ text ++ rest
  pub again : (behind : List ℕ) → frames_within max_frames (text ++ behind)
      ≡ with_all served (frames_within more behind)

pub read_none : (input : List ℕ) → HasRead [] max_frames input input
unfolding with_all
read_none input = record { text = []; parts = refl; again = λ behind. refl }

pub read_one : (served : List Frame) (f : Frame) (more : ℕ) (input rest after : List ℕ) → HasRead served (suc more)
    input rest → frame_at rest ≡ Ok (f, after)
    → HasRead (served ++ f ∷ []) more input after
read_one served f more input rest after has e =
    let front = frame_front rest after f e in
    record {
      text = has.text ++ front.text;
      parts = has.parts ∙ ap (λ (l : List ℕ). has.text ++ l) front.parts ∙ sym (append_assoc has.text front.text after);
      again = λ behind. ap (frames_within max_frames) (append_assoc has.text front.text behind)
          ∙ has.again (front.text ++ behind)
          ∙ ap (with_all served) (one_first more (front.text ++ behind) behind f (front.again behind))
          ∙ all_push served f (frames_within more behind);
    }

-- ---- the frames of the input

pub frames_are : (served : List Frame) (more : ℕ) (input rest : List ℕ) → HasRead served more input rest
    → frames_of input ≡ with_all served (frames_within more rest)
unfolding frames_of
frames_are served more input rest has = ap (frames_within max_frames) has.parts ∙ has.again rest

-- those that were read are the first
pub read_first : (served : List Frame) (more : ℕ) (input rest : List ℕ) → HasRead served more input rest
    → (others : List Frame) × ((frames_of input).frames ≡ served ++ others)
read_first served more input rest has = (
  (frames_within more rest).frames,
  ap (λ (fs : Frames). fs.frames) (frames_are served more input rest has)
      ∙ all_frames served (frames_within more rest),
)

-- how the input ends, with what is left
pub ended : (served : List Frame) (more : ℕ) (input rest : List ℕ) (fs : Frames) → HasRead served more input rest
    → frames_within more rest ≡ fs → fs.frames ≡ []
    → ((frames_of input).frames ≡ served) × ((frames_of input).end ≡ fs.end)
ended served more input rest fs has is none =
    let all = frames_are served more input rest has ∙ ap (with_all served) is in (
      ap (λ (x : Frames). x.frames) all ∙ all_frames served fs ∙ ap (λ (l : List Frame). served ++ l) none
          ∙ append-nil served,
      ap (λ (x : Frames). x.end) all ∙ all_end served fs,
    )

pub within_none : (more : ℕ) → frames_within more [] ≡ record { frames = []; end = Whole }
unfolding frames_within
within_none zero = refl
within_none (suc more) = refl

pub within_over : (rest : List ℕ) → (rest ≡ [] → ⊥) → frames_within 0 rest ≡ record { frames = []; end = Over }
unfolding frames_within
within_over [] some = absurd (some refl)
within_over (b ∷ rest) some = refl

-- ---- the next frame

pub next_some : (rest after : List ℕ) (f : Frame) → next_of rest ≡ Ok (Some f, after) → frame_at rest ≡ Ok (f, after)
next_some [] after f e = let none : None ≡ Some f = ap (λ (p : Option Frame × List ℕ). p.0)
    (from_ok {E = FrameFault} (None, []) (Some f, after) e) in absurd cc
next_some (b ∷ rest) after f e =
    from_bind (frame_at (b ∷ rest)) (λ x. Ok (Some x.0, x.1)) (Some f, after) e
    (λ (x : Frame × List ℕ) (e1 : frame_at (b ∷ rest) ≡ Ok x) (e2 : Ok (Some x.0, x.1) ≡ Ok (Some f, after)).
    let same : (Some x.0, x.1) ≡ (Some f, after) = from_ok {E = FrameFault} (Some x.0, x.1) (Some f, after) e2 in
    let some : Some x.0 ≡ Some f = ap (λ (p : Option Frame × List ℕ). p.0) same in
    let first : x.0 ≡ f = cc some in
    let second : x.1 ≡ after = ap (λ (p : Option Frame × List ℕ). p.1) same in
    e1 ∙ ap (λ (y : Frame). Ok (y, x.1)) first ∙ ap (λ (r : List ℕ). Ok (f, r)) second)

pub next_none : (rest after : List ℕ) → next_of rest ≡ Ok (None, after) → (rest ≡ []) × (after ≡ [])
next_none [] after e = (
  refl,
  sym (ap (λ (p : Option Frame × List ℕ). p.1)
      (from_ok {E = FrameFault} (None, []) (None, after) e)),
)
next_none (b ∷ rest) after e =
    from_bind (frame_at (b ∷ rest)) (λ x. Ok (Some x.0, x.1)) (None, after) e
    (λ (x : Frame × List ℕ) (e1 : frame_at (b ∷ rest) ≡ Ok x) (e2 : Ok (Some x.0, x.1) ≡ Ok (None, after)).
    let some : Some x.0 ≡ None = ap (λ (p : Option Frame × List ℕ). p.0)
    (from_ok {E = FrameFault} (Some x.0, x.1) (None, after) e2) in
    absurd cc)

abbrev some_of : Frame × List ℕ → Option Frame × List ℕ
some_of f = (Some f.0, f.1)

fault_of : (r : Reading Frame FrameFault) (d : FrameFault) → (r >>= λ f. Ok (some_of f)) ≡ Err d → r ≡ Err d
fault_of (Ok f) d e = absurd cc
fault_of (Err c) d e = cc

-- what is bad begins with no frame
pub next_bad : (more : ℕ) (rest : List ℕ) (d : FrameFault) → next_of rest ≡ Err d → frames_within (suc more) rest ≡ bad
next_bad more [] d e = absurd cc
next_bad more (b ∷ rest) d e = none_first more (b ∷ rest) d (fault_of (frame_at (b ∷ rest)) d e) (λ none. absurd cc)

-- what is cut short has no frame
pub cut_short : (more : ℕ) (taken : List ℕ) (d : FrameFault) → frame_at taken ≡ Err d
    → (frames_within (suc more) taken).frames ≡ []
cut_short more [] d e = ap (λ (fs : Frames). fs.frames) (within_none (suc more))
cut_short more (b ∷ taken) d e = ap (λ (fs : Frames). fs.frames) (none_first more (b ∷ taken) d e (λ none. absurd cc))

-- the frames that stand whole in what was taken
pub taken_are : (served : List Frame) (more : ℕ) (input rest taken behind : List ℕ) → HasRead served more input rest
    → rest ≡ taken ++ behind
    → (frames_within more taken).frames ≡ [] → (text : List ℕ) × (input ≡ text ++ behind)
    × (served ≡ (frames_of text).frames)
unfolding frames_of
taken_are served more input rest taken behind has parts none = (
  has.text ++ taken,
  has.parts ∙ ap (λ (l : List ℕ). has.text ++ l) parts ∙ sym (append_assoc has.text taken behind),
  sym (ap (λ (fs : Frames). fs.frames) (has.again taken) ∙ all_frames served (frames_within more taken)
      ∙ ap (λ (l : List Frame). served ++ l) none ∙ append-nil served),
)
