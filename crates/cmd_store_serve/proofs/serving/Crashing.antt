-- What a crash leaves, as moments of the frames, and as said of a prefix of them.
use Rattle.std.proofs.Common.{◌≡◌, ◌∙◌, inl, inr, ⊎_elim, ℕ, suc, ◌<◌, ◌≤◌, List, [], ◌∷◌, ◌++◌, length, take, drop}
use Rattle.std.proofs.Common.{refl, sym, ap, subst, append_assoc, length-append, arith}
use Rattle.std.proofs.lemmas.Bool.{cases_lt}
use Rattle.std.proofs.lemmas.List.{append-nil, take_all, take_at, take-append-drop, length-take-le}
use Rattle.site_io.specs.Disk.{Images}
use Rattle.ad_dir_model.specs.Directory.{Directory}
use Rattle.ad_dir_model.specs.Soundness.{IsSound}
use Rattle.ad_rows_write.specs.Rows.{IsStoreOf}
use Rattle.ad_frames.specs.declared.frame.Frame.{Frame}
use Rattle.ad_engine.specs.Runs.{out, after}
use Rattle.cmd_store_serve.specs.serving.Crash.{Begins, IsCrash}
use Rattle.cmd_store_serve.specs.serving.Reached.{Reaches}
use Rattle.ad_engine.specs.Runs.{out_of_first, after_first}
use Rattle.cmd_store_serve.proofs.serving.Reaching.{reaches, AreSound, first_longer, sound_push}
use Rattle.cmd_store_serve.proofs.serving.Runs.{output_next, out_push, answer_some, more_bytes, tokens_behind}

-- Between two frames, or amid one, whose directory is there already and of whose answer some bytes were emitted.
pub data Moment (dir : Directory) (frames : List Frame) (emitted : List ℕ) (images : Images) : Type 0 where
  between : (before behind : List Frame) → frames ≡ before ++ behind → emitted ≡ out dir before
      → IsStoreOf images (after dir before) → AreSound dir before
      → Moment dir frames emitted images
  amid : (before behind : List Frame) (frame : Frame) (k : ℕ) → frames ≡ before ++ (frame ∷ behind) → emitted
      ≡ out dir before ++ take k (output_next dir before frame)
      → IsStoreOf images (after dir (before ++ frame ∷ [])) → AreSound dir before → Moment dir frames emitted images

-- of a longer list of frames
pub longer : (dir : Directory) (frames more : List Frame) (emitted : List ℕ) (images : Images)
    → Moment dir frames emitted images → Moment dir (frames ++ more) emitted images
longer dir frames more emitted images (between before behind parts is store sound) =
    between before (behind ++ more) (ap (λ (l : List Frame). l ++ more) parts ∙ append_assoc before behind more) is
    store sound
longer dir frames more emitted images (amid before behind frame k parts is store sound) =
    amid before (behind ++ more) frame k (ap (λ (l : List Frame). l ++ more) parts
    ∙ append_assoc before (frame ∷ behind) more) is store sound

-- ---- the first ones of a list

first_ones : (frames before behind : List Frame) → frames ≡ before ++ behind → take (length before) frames ≡ before
first_ones frames before behind parts = ap (take (length before)) parts ∙ take_at before behind (length before) refl

few_ones : (frames before behind : List Frame) → frames ≡ before ++ behind → length before ≤ length frames
few_ones frames before behind parts = let long : length frames ≡ length (before ++ behind) = ap length parts
    in omega (arith, long, length-append before behind)

out_first : (dir : Directory) (frames before behind : List Frame) → frames ≡ before ++ behind
    → out_of_first dir frames (length before) ≡ out dir before
out_first dir frames before behind parts = ap (out dir) (first_ones frames before behind parts)

after_is : (dir : Directory) (frames before behind : List Frame) → frames ≡ before ++ behind
    → after_first dir frames (length before) ≡ after dir before
after_is dir frames before behind parts = ap (after dir) (first_ones frames before behind parts)

-- one more
one_more : (frames before behind : List Frame) (frame : Frame) → frames ≡ before ++ (frame ∷ behind) → frames
    ≡ (before ++ frame ∷ []) ++ behind
one_more frames before behind frame parts = parts ∙ sym (append_assoc before (frame ∷ []) behind)

length_push : (before : List Frame) (frame : Frame) → length (before ++ frame ∷ []) ≡ suc (length before)
length_push before frame = omega (arith, length-append before (frame ∷ []))

out_next : (dir : Directory) (frames before behind : List Frame) (frame : Frame) → frames ≡ before ++ (frame ∷ behind)
    → out_of_first dir frames (suc (length before)) ≡ out dir before ++ output_next dir before frame
out_next dir frames before behind frame parts =
    ap (out_of_first dir frames) (sym (length_push before frame))
    ∙ out_first dir frames (before ++ frame ∷ []) behind (one_more frames before behind frame parts)
    ∙ out_push dir before frame

after_next : (dir : Directory) (frames before behind : List Frame) (frame : Frame) → frames ≡ before ++ (frame ∷ behind)
    → after_first dir frames (suc (length before)) ≡ after dir (before ++ frame ∷ [])
after_next dir frames before behind frame parts =
    ap (after_first dir frames) (sym (length_push before frame)) ∙ after_is dir frames (before ++ frame ∷ []) behind
    (one_more frames before behind frame parts)

-- ---- how many bytes

begins_short : (front text : List ℕ) → Begins front text → length front ≤ length text
begins_short front text begins = let long : length text ≡ length (front ++ begins.0) = ap length begins.1
    in omega (arith, long, length-append front begins.0)

next_longer : (dir : Directory) (before : List Frame) (frame : Frame) → length (out dir before)
    < length (out dir before ++ output_next dir before frame)
next_longer dir before frame = omega (
  arith,
  answer_some (after dir before) (tokens_behind dir before) frame,
  length-append (out dir before) (output_next dir before frame),
)

-- frames from n on are answered after what the first n are
answered_first : (dir : Directory) (frames : List Frame) (emitted : List ℕ) (n : ℕ)
    → Begins emitted (out_of_first dir frames n)
    → (i : ℕ) → length (out_of_first dir frames i) < length emitted → i < n
answered_first dir frames emitted n begins i less = ⊎_elim (λ (lt : i < n). lt)
    (λ ge. absurd (omega (
      arith,
      less,
      begins_short emitted (out_of_first dir frames n) begins,
      more_bytes dir frames
          n i ge,
    )))
    (cases_lt i n)

sound_first : (dir : Directory) (frames before behind : List Frame) → frames ≡ before ++ behind → AreSound dir before
    → (i : ℕ) → i ≤ length before → Reaches dir frames i
sound_first dir frames before behind parts sound i few =
    reaches dir frames i (subst IsSound (sym (ap (λ (l : List Frame). after_first dir l i) parts
    ∙ first_longer dir before behind i few)) (sound i few))

-- ---- between two frames

no_next : (dir : Directory) (frames before behind : List Frame) (emitted : List ℕ) → frames ≡ before ++ behind
    → emitted ≡ out dir before
    → length before < length frames → Begins (out_of_first dir frames (suc (length before))) emitted → ⊥
no_next dir frames before [] emitted parts is more begins =
    let long : length frames ≡ length (before ++ []) = ap length parts in
    omega (arith, more, long, length-append {A = Frame} before [])
no_next dir frames before (frame ∷ behind) emitted parts is more begins =
    let short = begins_short (out_of_first dir frames (suc (length before))) emitted begins in
    let next : length (out_of_first dir frames (suc (length before)))
    ≡ length (out dir before ++ output_next dir before frame) =
    ap length (out_next dir frames before behind frame parts) in
    let same : length emitted ≡ length (out dir before) = ap length is in
    omega (arith, short, next, same, next_longer dir before frame)

crash_between : (dir : Directory) (frames before behind : List Frame) (emitted : List ℕ) (images : Images) → frames
    ≡ before ++ behind → emitted ≡ out dir before
    → IsStoreOf images (after dir before) → AreSound dir before → IsCrash dir frames images emitted
crash_between dir frames before behind emitted images parts is store sound =
    let here : out_of_first dir frames (length before) ≡ emitted = out_first dir frames before behind parts ∙ sym is in
    let begins : Begins emitted (out_of_first dir frames (length before)) = ([], here ∙ sym (append-nil emitted)) in
    record {
      n = length before;
      few = few_ones frames before behind parts;
      m = length before;
      whole = record {
        few = few_ones frames before behind parts;
        stand = ([], sym here ∙ sym (append-nil (out_of_first dir frames (length before))));
        no_more = no_next dir frames before behind emitted parts is;
      };
      next = inl refl;
      store = subst (IsStoreOf images) (sym (after_is dir frames before behind parts)) store;
      answers = begins;
      answered = answered_first dir frames emitted (length before) begins;
      reached = sound_first dir frames before behind parts sound;
    }

-- ---- amid one

-- its answer isn't whole yet
crash_cut : (dir : Directory) (frames before behind : List Frame) (frame : Frame) (k : ℕ) (emitted : List ℕ)
    (images : Images) → frames ≡ before ++ (frame ∷ behind)
    → emitted ≡ out dir before ++ take k (output_next dir before frame) → k < length (output_next dir before frame)
    → IsStoreOf images (after dir (before ++ frame ∷ [])) → AreSound dir before → IsCrash dir frames images emitted
crash_cut dir frames before behind frame k emitted images parts is cut store sound =
    let answer = output_next dir before frame in
    let next : out_of_first dir frames (suc (length before)) ≡ out dir before ++ answer = out_next dir frames before
    behind frame parts in
    let begins : Begins emitted (out_of_first dir frames (suc (length before))) = (
      drop k answer,
      next ∙ ap (λ (l : List ℕ). out dir before ++ l) (sym (take-append-drop k answer))
          ∙ sym (append_assoc (out dir before) (take k answer) (drop k answer))
          ∙ ap (λ (l : List ℕ). l ++ drop k answer) (sym is),
    ) in
    let here : out_of_first dir frames (length before) ≡ out dir before = out_first dir frames before (frame ∷ behind)
    parts in
    let next_store : IsStoreOf images (after_first dir frames (suc (length before))) = subst (IsStoreOf images)
    (sym (after_next dir frames before behind frame parts)) store in
    record {
      n = suc (length before);
      few = let few = few_ones frames (before ++ frame ∷ []) behind (one_more frames before behind frame parts)
          in omega (arith, few, length_push before frame);
      m = length before;
      whole = record {
        few = few_ones frames before (frame ∷ behind) parts;
        stand = (take k answer, is ∙ ap (λ (l : List ℕ). l ++ take k answer) (sym here));
        no_more = λ _ all.
            let short = begins_short (out_of_first dir frames (suc (length before))) emitted all in
            let long : length (out_of_first dir frames (suc (length before))) ≡ length (out dir before ++ answer)
            = ap length next in
            let some : length emitted ≡ length (out dir before ++ take k answer) = ap length is in
            let le : k ≤ length answer = omega (arith, cut) in
            omega (
              arith,
              short,
              long,
              some,
              cut,
              length-append (out dir before) answer,
              length-append (out dir before) (take k answer),
              length-take-le k answer le,
            );
      };
      next = inr refl;
      store = next_store;
      answers = begins;
      answered = answered_first dir frames emitted (suc (length before)) begins;
      reached = λ i few. ⊎_elim
          (λ lt. let le : i ≤ length before = omega (arith, lt) in sound_first dir frames before (frame ∷ behind)
          parts sound i le)
          (λ ge. let same : suc (length before) ≡ i = omega (arith, few, ge) in
          subst (λ (j : ℕ). Reaches dir frames j) same (reaches dir frames (suc (length before)) next_store.sound))
          (cases_lt i (suc (length before)));
    }

sound_next : (dir : Directory) (before : List Frame) (frame : Frame) (images : Images) → AreSound dir before
    → IsStoreOf images (after dir (before ++ frame ∷ []))
    → AreSound dir (before ++ frame ∷ [])
sound_next dir before frame images sound store = sound_push dir before frame sound store.sound

pub crash_at : (dir : Directory) (frames : List Frame) (emitted : List ℕ) (images : Images)
    → Moment dir frames emitted images → IsCrash dir frames images emitted
crash_at dir frames emitted images (between before behind parts is store sound) = crash_between dir frames before
    behind emitted images parts is store sound
crash_at dir frames emitted images (amid before behind frame k parts is store sound) = ⊎_elim
    (λ cut. crash_cut dir frames before behind frame k emitted images parts is cut store sound)
    (λ ge. let whole : take k (output_next dir before frame) ≡ output_next dir before frame
    = take_all k (output_next dir before frame) ge in
    crash_between dir frames (before ++ frame ∷ []) behind emitted images (one_more frames before behind frame parts)
    (is ∙ ap (λ (l : List ℕ). out dir before ++ l) whole ∙ sym (out_push dir before frame)) store
    (sound_next dir before frame images sound store))
    (cases_lt k (length (output_next dir before frame)))
