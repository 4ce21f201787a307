-- Which entry of a pending list is the first bad one.
use Rattle.std.specs.Prelude.{◌≡◌, ◌⊎◌, ℕ, true, false, List, ◌∷◌, ◌++◌}
use Rattle.prop_queue.specs.declared.pending.Pending.{Pending}
use Rattle.prop_queue.specs.Pending.{is_pending, AreDistinct}
use Rattle.std.specs.List.{AllByRecursion}
use Rattle.ad_dir_model.specs.Objects.{is_live}
use Rattle.ad_dir_model.specs.Directory.{Directory}
use Rattle.ad_dir_model.specs.Soundness.{IsPendingLive}

-- an entry's parent isn't live, or is that of an entry before it; those before it are live and distinct
pub record IsFirstBadPending (dir : Directory) (number : ℕ) : Type 0 where
  pub before : List Pending
  pub entry : Pending
  pub behind : List Pending
  pub parts : dir.pending ≡ before ++ entry ∷ behind
  pub parent : entry.parent ≡ number
  pub before_live : AllByRecursion (IsPendingLive dir) before
  pub before_distinct : AreDistinct before
  pub bad : (is_live dir.objects number ≡ false) ⊎ (is_pending number before ≡ true)
