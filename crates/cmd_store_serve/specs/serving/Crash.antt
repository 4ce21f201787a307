-- What a crash leaves while frames are served.
use Rattle.std.specs.Prelude.{◌≡◌, ◌⊎◌, ℕ, suc, ◌<◌, ◌≤◌, List, ◌++◌, length}
use Rattle.site_io.specs.Disk.{Images}
use Rattle.ad_dir_model.specs.Directory.{Directory}
use Rattle.ad_rows_write.specs.Rows.{IsStoreOf}
use Rattle.ad_frames.specs.declared.frame.Frame.{Frame}
use Rattle.cmd_store_serve.specs.serving.Reached.{Reaches}
use Rattle.ad_engine.specs.Runs.{out_of_first, after_first}

-- the text begins with this one
abbrev pub Begins : List ℕ → List ℕ → Type 0
Begins front text = (rest : List ℕ) × (text ≡ front ++ rest)

-- So many answers stand whole in what was emitted.
pub record StandWhole (dir : Directory) (frames : List Frame) (emitted : List ℕ) (m : ℕ) : Type 0 where
  pub few : m ≤ length frames
  pub stand : Begins (out_of_first dir frames m) emitted
  pub no_more : m < length frames → Begins (out_of_first dir frames (suc m)) emitted → ⊥

-- Where this was emitted, a crash leaves the directory after the first n frames: those whose answers stand whole in
-- it, or one more.
pub record IsCrash (dir : Directory) (frames : List Frame) (images : Images) (emitted : List ℕ) : Type 0 where
  pub n : ℕ
  pub few : n ≤ length frames
  pub m : ℕ
  pub whole : StandWhole dir frames emitted m
  pub next : (n ≡ m) ⊎ (n ≡ suc m)
  pub store : IsStoreOf images (after_first dir frames n)
  -- what was emitted begins the answers to these frames
  pub answers : Begins emitted (out_of_first dir frames n)
  -- so each frame of whose answer even one byte was emitted is among them
  pub answered : (i : ℕ) → length (out_of_first dir frames i) < length emitted → i < n
  -- and what holds of each directory up to there
  pub reached : (i : ℕ) → i ≤ n → Reaches dir frames i

-- the same of all that was emitted, where this text had been before
abbrev pub IsCrashBehind : Directory → List Frame → List ℕ → Images → List ℕ → Type 0
IsCrashBehind dir frames said images text = (emitted : List ℕ) × (text ≡ said ++ emitted) × IsCrash dir frames images
    emitted
