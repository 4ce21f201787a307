-- The frames of the sample, read from its bytes.
use Rattle.std.proofs.Common.{◌≡◌, ◌∙◌, inl, inr, ℕ, suc, ◌+◌, ◌≤◌, false, List, [], ◌∷◌, ◌++◌, length, Some, None}
use Rattle.std.proofs.Common.{Ok, Err, refl, sym, ap, subst, length-append, arith}
use Rattle.site_io.specs.Counts.{HasRisen}
use Rattle.ad_frames.specs.declared.fault.FrameFault.{FrameFault}
use Rattle.ad_frames.specs.declared.fault.FrameFault.TheVariants as fault
use Rattle.ad_frames.specs.declared.frame.Frame.{Frame}
use Rattle.ad_frames.specs.Frames.{Whole, Bad, Frames, bad, frames_within, frames_of}
use Rattle.ad_frames.specs.Limits.{max_frames}
use Rattle.ad_frames.specs.Reading.{next_of}
use Rattle.ad_frames.specs.Source.{ReadsSource}
use Rattle.cmd_store_open.proofs.ReadSoFar.{HasRead, read_none, read_one, read_first, ended, within_none}
use Rattle.cmd_store_open.proofs.ReadSoFar.{next_some, next_none, next_bad}
use Rattle.cmd_store_serve.specs.SampleFrames.{sample_frames}
use Rattle.cmd_store_serve.specs.SampleServing.{is_memory}

pub read_start : (served : List Frame) (input rest : List ℕ) → served ≡ [] → rest ≡ input
    → HasRead served 1000000 input rest
unfolding max_frames
read_start served input rest none same =
    subst (λ (s : List Frame). HasRead s 1000000 input rest) (sym none)
    (subst (λ (r : List ℕ). HasRead [] 1000000 input r) (sym same) (read_none input))

pub read_more : (served new : List Frame) (f : Frame) (more k : ℕ) (input rest after : List ℕ) → k ≡ suc more → new
    ≡ served ++ f ∷ []
    → HasRead served k input rest → next_of rest ≡ Ok (Some f, after) → HasRead new more input after
read_more served new f more k input rest after next is has e =
    subst (λ (s : List Frame). HasRead s more input after) (sym is)
    (read_one served f more input rest after (subst (λ (n : ℕ). HasRead served n input rest) next has)
    (next_some rest after f e))

pub one_longer : (served new : List Frame) (f : Frame) (n : ℕ) → new ≡ served ++ f ∷ [] → length served ≡ n
    → length new ≡ n + 1
one_longer served new f n is long =
    let e : length new ≡ length (served ++ f ∷ []) = ap length is in
    omega (arith, e, length-append served (f ∷ []), long)

pub read_all : (served : List Frame) (more : ℕ) (input rest after : List ℕ) → HasRead served more input rest
    → next_of rest ≡ Ok (None, after)
    → (frames_of input).frames ≡ served
read_all served more input rest after has e =
    (ended served more input rest (record { frames = []; end = Whole }) has
    (ap (frames_within more) (next_none rest after e).0 ∙ within_none more) refl).0

-- ---- what doesn't come

no_rise : HasRisen 0 0 → ⊥
no_rise (inl lt) = omega (arith, lt)
no_rise (inr end) = omega (arith, end)

fault_is : (d : FrameFault) (rest after : List ℕ) → is_memory d ≡ false → (d ≡ fault.Source → HasRisen 0 0)
    → ReadsSource (Some rest) (Some after) (Err d) next_of
    → next_of rest ≡ Err d
fault_is (fault.Kind kind) rest after test cause read = read
fault_is (fault.Connection connection) rest after test cause read = read
fault_is (fault.Length len) rest after test cause read = read
fault_is (fault.Steps steps) rest after test cause read = read
fault_is (fault.Token t) rest after test cause read = read
fault_is fault.Truncated rest after test cause read = read
fault_is fault.Source rest after test cause read = absurd (no_rise (cause refl))
fault_is fault.Memory rest after test cause read = absurd cc

not_whole : Bad ≡ Whole → ⊥
not_whole e = absurd cc

-- the bytes are those of whole frames
pub never_bad : (served : List Frame) (more k : ℕ) (input rest after : List ℕ) (d : FrameFault) → frames_of input
    ≡ record { frames = sample_frames; end = Whole }
    → k ≡ suc more → HasRead served k input rest → is_memory d ≡ false → (d ≡ fault.Source → HasRisen 0 0)
    → ReadsSource (Some rest) (Some after) (Err d) next_of → ⊥
never_bad served more k input rest after d law next has test cause read =
    let e : next_of rest ≡ Err d = fault_is d rest after test cause read in
    let is : frames_within k rest ≡ bad = ap (λ (n : ℕ). frames_within n rest) next ∙ next_bad more rest d e in
    not_whole (sym (ended served k input rest bad has is refl).1 ∙ ap (λ (fs : Frames). fs.end) law)

seven : length sample_frames ≡ 7
unfolding sample_frames
seven = refl

-- there are no eight
pub never_more : (served : List Frame) (more : ℕ) (input rest : List ℕ) → frames_of input
    ≡ record { frames = sample_frames; end = Whole }
    → HasRead served more input rest → 8 ≤ length served → ⊥
never_more served more input rest law has many =
    let first = read_first served more input rest has in
    let all : sample_frames ≡ served ++ first.0 = sym (ap (λ (fs : Frames). fs.frames) law) ∙ first.1 in
    let long : length sample_frames ≡ length (served ++ first.0) = ap length all in
    omega (arith, long, length-append served first.0, seven, many)
