-- What is kept of a parent in a search: whether what stands below it is seen.
use Rattle.std.specs.Prelude.{◌≡◌, ◌≢◌, ℕ, true}
use Rattle.ad_ids.specs.declared.token.Token.{Token}
use Rattle.ad_dir_model.specs.Objects.{parent_at}
use Rattle.ad_dir_model.specs.Tree.{root}
use Rattle.ad_dir_model.specs.Settings.{list_object_mode}
use Rattle.ad_dir_model.specs.Directory.{Directory}
use Rattle.ad_access_dir.specs.Sight.{is_visible}
use Rattle.ad_search.specs.declared.parents.Parent.{Parent}

-- The mode is the directory's. Where something is kept, it holds of each object below the parent of this number.
pub record IsKept (dir : Directory) (token : Token) (kept : Parent) : Type 0 where
  pub mode : kept.list_mode ≡ list_object_mode dir
  pub each : kept.is_known ≡ true → (number : ℕ) → number ≢ root → parent_at dir.objects number ≡ kept.number
      → is_visible dir token number ≡ kept.shows
