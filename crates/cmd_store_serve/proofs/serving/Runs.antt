-- What frames are answered, one after the other.
use Rattle.std.proofs.Common.{◌≡◌, ◌∙◌, ℕ, ◌<◌, ◌≤◌, List, [], ◌∷◌, ◌++◌, length, take, drop, Option, refl, sym, ap}
use Rattle.std.proofs.Common.{append_assoc, length-append, arith}
use Rattle.std.proofs.lemmas.List.{append-nil, take-append-drop, take-take}
use Rattle.ad_ids.specs.declared.token.Token.{Token}
use Rattle.ad_dir_model.specs.Directory.{Directory}
use Rattle.ad_frames.specs.declared.frame.Frame.{Frame}
use Rattle.ad_frames.specs.declared.frame.FrameBody.{FrameBody}
use Rattle.ad_frames.specs.declared.frame.FrameBody.TheVariants as body
use Rattle.ad_engine.specs.Answer.{answer, body_answered}
use Rattle.ad_engine_answer.specs.Output.{output_frame}
use Rattle.ad_engine.specs.Runs.{no_tokens, out_from, after_from, out, after}
use Rattle.ad_engine.specs.Runs.{out_of_first}

-- ---- the tokens after frames

pub tokens_from : Directory → List (Option Token) → List Frame → List (Option Token)
tokens_from dir tokens [] = tokens
tokens_from dir tokens (frame ∷ frames) = tokens_from (answer dir tokens frame).directory
    (answer dir tokens frame).tokens frames

abbrev pub tokens_behind : Directory → List Frame → List (Option Token)
tokens_behind dir frames = tokens_from dir no_tokens frames

-- the answer to the next frame
abbrev pub output_next : Directory → List Frame → Frame → List ℕ
output_next dir frames frame = (answer (after dir frames) (tokens_behind dir frames) frame).output

-- ---- one frame more

out_append_from : (dir : Directory) (tokens : List (Option Token)) (xs ys : List Frame)
    → out_from dir tokens (xs ++ ys) ≡ out_from dir tokens xs ++ out_from (after_from dir tokens xs)
    (tokens_from dir tokens xs) ys
unfolding out_from after_from tokens_from
out_append_from dir tokens [] ys = refl
out_append_from dir tokens (x ∷ xs) ys =
    ap (λ (l : List ℕ). (answer dir tokens x).output ++ l)
    (out_append_from (answer dir tokens x).directory (answer dir tokens x).tokens xs ys)
    ∙ sym (append_assoc (answer dir tokens x).output _ _)

after_push_from : (dir : Directory) (tokens : List (Option Token)) (xs : List Frame) (x : Frame)
    → after_from dir tokens (xs ++ x ∷ []) ≡ (answer (after_from dir tokens xs) (tokens_from dir tokens xs) x).directory
unfolding after_from tokens_from
after_push_from dir tokens [] x = refl
after_push_from dir tokens (y ∷ xs) x = after_push_from (answer dir tokens y).directory (answer dir tokens y).tokens
    xs x

tokens_push_from : (dir : Directory) (tokens : List (Option Token)) (xs : List Frame) (x : Frame)
    → tokens_from dir tokens (xs ++ x ∷ []) ≡ (answer (after_from dir tokens xs) (tokens_from dir tokens xs) x).tokens
unfolding after_from tokens_from
tokens_push_from dir tokens [] x = refl
tokens_push_from dir tokens (y ∷ xs) x = tokens_push_from (answer dir tokens y).directory (answer dir tokens y).tokens
    xs x

pub out_none : (dir : Directory) → out dir [] ≡ []
unfolding out_from
out_none dir = refl

pub after_none : (dir : Directory) → after dir [] ≡ dir
unfolding after_from
after_none dir = refl

pub tokens_none : (dir : Directory) → tokens_behind dir [] ≡ []
unfolding tokens_from
tokens_none dir = refl

out_one : (dir : Directory) (tokens : List (Option Token)) (x : Frame) → out_from dir tokens (x ∷ [])
    ≡ (answer dir tokens x).output
unfolding out_from
out_one dir tokens x = append-nil (answer dir tokens x).output

pub out_push : (dir : Directory) (xs : List Frame) (x : Frame) → out dir (xs ++ x ∷ []) ≡ out dir xs
    ++ output_next dir xs x
out_push dir xs x =
    out_append_from dir no_tokens xs (x ∷ []) ∙ ap (λ (l : List ℕ). out dir xs ++ l)
    (out_one (after dir xs) (tokens_behind dir xs) x)

pub after_push : (dir : Directory) (xs : List Frame) (x : Frame) → after dir (xs ++ x ∷ [])
    ≡ (answer (after dir xs) (tokens_behind dir xs) x).directory
after_push dir xs x = after_push_from dir no_tokens xs x

pub tokens_push : (dir : Directory) (xs : List Frame) (x : Frame)
    → tokens_behind dir (xs ++ x ∷ []) ≡ (answer (after dir xs) (tokens_behind dir xs) x).tokens
tokens_push dir xs x = tokens_push_from dir no_tokens xs x

-- the answers to a list begin with those to its first part
pub out_append : (dir : Directory) (xs ys : List Frame) → (rest : List ℕ) × (out dir (xs ++ ys) ≡ out dir xs ++ rest)
out_append dir xs ys = (out_from (after dir xs) (tokens_behind dir xs) ys, out_append_from dir no_tokens xs ys)

-- ---- no answer is empty

frame_some : (kind connection : ℕ) (bytes : List ℕ) → 0 < length (output_frame kind connection bytes)
unfolding output_frame
frame_some kind connection bytes = omega arith

body_some : (dir : Directory) (tokens : List (Option Token)) (connection : ℕ) (b : FrameBody) → 0
    < length (body_answered dir tokens connection b).output
body_some dir tokens connection (body.Token token) = frame_some _ _ _
body_some dir tokens connection (body.Message bytes) = frame_some _ _ _
body_some dir tokens connection (body.Steps n) = frame_some _ _ _
body_some dir tokens connection body.Run = frame_some _ _ _

pub answer_some : (dir : Directory) (tokens : List (Option Token)) (frame : Frame) → 0
    < length (answer dir tokens frame).output
unfolding answer
answer_some dir tokens frame = body_some dir tokens frame.connection frame.body

-- ---- more frames are answered by no fewer bytes

pub more_bytes : (dir : Directory) (frames : List Frame) (n m : ℕ) → n ≤ m → length (out_of_first dir frames n)
    ≤ length (out_of_first dir frames m)
more_bytes dir frames n m le =
    let split : take m frames ≡ take n frames ++ drop n (take m frames) =
    sym (take-append-drop n (take m frames)) ∙ ap (λ (l : List Frame). l ++ drop n (take m frames))
    (take-take n m frames le) in
    let more = out_append dir (take n frames) (drop n (take m frames)) in
    let long : length (out_of_first dir frames m) ≡ length (out_of_first dir frames n ++ more.0)
    = ap (λ (l : List Frame). length (out dir l)) split ∙ ap length more.1 in
    omega (arith, long, length-append (out_of_first dir frames n) more.0)
