-- The directories that the frames of an input lead to, and what holds of each.
use Rattle.std.specs.Prelude.{◌≡◌, ℕ, suc, List, slice_get, Option, Some, None}
use Rattle.ad_ids.specs.declared.token.Token.{Token}
use Rattle.ad_frames.specs.declared.frame.Frame.{Frame}
use Rattle.ad_frames.specs.declared.frame.FrameBody.TheVariants as body
use Rattle.ad_dir_model.specs.Directory.{Directory}
use Rattle.ad_dir_model.specs.Names.{admin_sd_holder}
use Rattle.ad_dir_model.specs.Objects.{sd_at}
use Rattle.ad_dir_model.specs.Protection.{frozen, IsProtected}
use Rattle.ad_dir_model.specs.Soundness.{IsSound}
use Rattle.ad_engine.specs.Answer.{answer}
use Rattle.ad_engine_answer.specs.Output.{run_output}
use Rattle.ad_engine.specs.Runs.{after_first}
use Rattle.cmd_store.specs.Settle.{IsRecomputed}

-- Each object that was protected before a run has after it the frozen descriptor that AdminSDHolder had before.
abbrev pub IsFrozen : Directory → Directory → Type 0
IsFrozen before behind = (holder number : ℕ) → admin_sd_holder before ≡ Some holder → IsProtected before number
    → sd_at behind.objects number ≡ frozen (sd_at before.objects holder)

-- Without AdminSDHolder a run changes nothing, and is answered that none is protected.
pub record IsNoRun (before behind : Directory) (frame : Frame) : Type 0 where
  pub same : behind ≡ before
  pub none : (tokens : List (Option Token)) → (answer before tokens frame).output ≡ run_output frame.connection 0 0

-- What holds of the directory after the first n frames.
pub record Reaches (dir : Directory) (frames : List Frame) (n : ℕ) : Type 0 where
  pub sound : IsSound (after_first dir frames n)
  pub recomputed : IsRecomputed (after_first dir frames n)
  -- and of a protection run that is the next frame
  pub protected : (frame : Frame) → slice_get frames n ≡ Some frame → frame.body ≡ body.Run
      → IsFrozen (after_first dir frames n) (after_first dir frames (suc n))
  pub unprotected : (frame : Frame) → slice_get frames n ≡ Some frame → frame.body ≡ body.Run
      → admin_sd_holder (after_first dir frames n) ≡ None
      → IsNoRun (after_first dir frames n) (after_first dir frames (suc n)) frame
