-- What holds of each sound directory that frames lead to.
use Rattle.std.proofs.Common.{◌≡◌, ◌∙◌, ⊎_elim, ℕ, zero, suc, ◌≤◌, List, [], ◌∷◌, ◌++◌, length, length-append, take}
use Rattle.std.proofs.Common.{Option, Some, None, sym, ap, subst, arith}
use Rattle.std.specs.Prelude.{slice_get}
use Rattle.std.proofs.lemmas.Bool.{cases_lt}
use Rattle.std.proofs.lemmas.List.{take_all, take-append-le}
use Rattle.ad_ids.specs.declared.token.Token.{Token}
use Rattle.ad_dir_model.specs.Directory.{Directory}
use Rattle.ad_dir_model.specs.Names.{admin_sd_holder}
use Rattle.ad_dir_model.specs.Objects.{sd_at}
use Rattle.ad_dir_model.specs.Protection.{Run, protection_run}
use Rattle.ad_dir_model.specs.Soundness.{IsSound}
use Rattle.ad_dir_model.proofs.ScratchLaws.{settled_scratch}
use Rattle.ad_dir_model.proofs.SecondRun.{run_done, run_nothing}
use Rattle.ad_frames.specs.declared.frame.Frame.{Frame}
use Rattle.ad_frames.specs.declared.frame.FrameBody.TheVariants as body
use Rattle.ad_engine.specs.Answer.{answer, body_answered, ran}
use Rattle.ad_engine_answer.specs.Output.{run_output}
use Rattle.ad_engine.specs.Runs.{after_from, after}
use Rattle.cmd_store_serve.specs.serving.Reached.{IsFrozen, IsNoRun, Reaches}
use Rattle.ad_engine.specs.Runs.{after_first}
use Rattle.cmd_store_serve.proofs.serving.Runs.{tokens_behind, after_push}

run_gives : (dir : Directory) (tokens : List (Option Token)) (frame : Frame) → frame.body ≡ body.Run
    → answer dir tokens frame ≡ ran tokens frame.connection (protection_run dir)
unfolding answer
run_gives dir tokens frame is = ap (body_answered dir tokens frame.connection) is

-- the frame at a place is the last of the first ones up to it
first_push : (frames : List Frame) (n : ℕ) (frame : Frame) → slice_get frames n ≡ Some frame → take (suc n) frames
    ≡ take n frames ++ frame ∷ []
first_push [] n frame is = absurd (none_at n is)
  where
    none_at : (n : ℕ) → slice_get {X = Frame} [] n ≡ Some frame → ⊥
    none_at zero e = absurd cc
    none_at (suc k) e = absurd cc
first_push (f ∷ frames) zero frame is = ap (λ (x : Frame). x ∷ []) (inside is)
  where
    inside : Some f ≡ Some frame → f ≡ frame
    inside e = cc e
first_push (f ∷ frames) (suc n) frame is = ap (λ (l : List Frame). f ∷ l) (first_push frames n frame is)

pub next_directory : (dir : Directory) (frames : List Frame) (n : ℕ) (frame : Frame) → slice_get frames n ≡ Some frame
    → after_first dir frames (suc n) ≡ (answer (after_first dir frames n) (tokens_behind dir (take n frames))
    frame).directory
next_directory dir frames n frame is = ap (after dir) (first_push frames n frame is) ∙ after_push dir (take n frames)
    frame

run_behind : (dir : Directory) (frames : List Frame) (n : ℕ) (frame : Frame) → slice_get frames n ≡ Some frame
    → frame.body ≡ body.Run
    → after_first dir frames (suc n) ≡ (protection_run (after_first dir frames n)).directory
run_behind dir frames n frame is run =
    next_directory dir frames n frame is ∙ ap (λ a. a.directory)
    (run_gives (after_first dir frames n) (tokens_behind dir (take n frames)) frame run)

frozen_behind : (before behind : Directory) → IsSound before → behind ≡ (protection_run before).directory
    → IsFrozen before behind
frozen_behind before behind sound is holder number there protected =
    ap (λ (d : Directory). sd_at d.objects number) is ∙ (run_done before holder number sound there protected).sd_is

none_behind : (before behind : Directory) (frame : Frame) → frame.body ≡ body.Run → behind
    ≡ (protection_run before).directory → admin_sd_holder before ≡ None
    → IsNoRun before behind frame
none_behind before behind frame run is none =
    let nothing : protection_run before ≡ record { directory = before; changed = 0; protected = 0 }
    = run_nothing before none in
    record {
      same = is ∙ ap (λ (r : Run). r.directory) nothing;
      none = λ tokens. ap (λ a. a.output) (run_gives before tokens frame run)
          ∙ ap (λ (r : Run). run_output frame.connection r.changed r.protected) nothing;
    }

pub reaches : (dir : Directory) (frames : List Frame) (n : ℕ) → IsSound (after_first dir frames n)
    → Reaches dir frames n
reaches dir frames n sound = record {
  sound = sound;
  recomputed = λ empty number live. settled_scratch (after_first dir frames n) sound empty number live;
  protected = λ frame is run. frozen_behind (after_first dir frames n) (after_first dir frames (suc n)) sound
      (run_behind dir frames n frame is run);
  unprotected = λ frame is run none. none_behind (after_first dir frames n)
      (after_first dir frames (suc n)) frame run (run_behind dir frames n frame is run) none;
}

-- ---- of all of them

-- each directory up to the one after these frames is sound
abbrev pub AreSound : Directory → List Frame → Type 0
AreSound dir frames = (n : ℕ) → n ≤ length frames → IsSound (after_first dir frames n)

pub all_first : (dir : Directory) (frames : List Frame) → after_first dir frames (length frames) ≡ after dir frames
all_first dir frames = ap (after dir) (take_all (length frames) frames (omega arith))

pub each_reached : (dir : Directory) (frames : List Frame) → AreSound dir frames → (n : ℕ) → Reaches dir frames n
each_reached dir frames sound n = reaches dir frames n (⊎_elim
    (λ lt. sound n (omega (arith, lt)))
    (λ ge. let all : take n frames ≡ frames = take_all n frames ge in
    subst IsSound (all_first dir frames ∙ ap (after dir) (sym all)) (sound (length frames) (omega arith)))
    (cases_lt n (length frames)))

pub sound_none : (dir : Directory) → IsSound dir → AreSound dir []
unfolding after_from
sound_none dir sound n few = subst IsSound (ap (after dir) (sym (take_all n [] (omega arith)))) sound

-- the first ones of a longer list
pub first_longer : (dir : Directory) (xs ys : List Frame) (n : ℕ) → n ≤ length xs → after_first dir (xs ++ ys) n
    ≡ after_first dir xs n
first_longer dir xs ys n few = ap (after dir) (take-append-le n xs ys few)

pub sound_push : (dir : Directory) (xs : List Frame) (x : Frame) → AreSound dir xs
    → IsSound (after dir (xs ++ x ∷ [])) → AreSound dir (xs ++ x ∷ [])
sound_push dir xs x sound last n few = ⊎_elim
    (λ lt. let le : n ≤ length xs = omega (arith, lt) in subst IsSound (sym (first_longer dir xs (x ∷ []) n le))
    (sound n le))
    (λ ge. let all : take n (xs ++ x ∷ []) ≡ xs ++ x ∷ [] = take_all n (xs ++ x ∷ [])
    (omega (arith, ge, length-append xs (x ∷ []))) in
    subst IsSound (ap (after dir) (sym all)) last)
    (cases_lt n (suc (length xs)))
