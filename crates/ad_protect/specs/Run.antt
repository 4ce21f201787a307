-- What the edits of a protection run are.
use Rattle.std.specs.Prelude.{◌≡◌, ℕ, List, [], map}
use Rattle.ad_dir_objects.specs.declared.edit.Edit.{Edit}
use Rattle.ad_dir.specs.Applying.{MayApplyAll}
use Rattle.ad_dir_objects.specs.Seen.{edit_seen}
use Rattle.ad_dir_model.specs.Directory.{Directory, all_edited}
use Rattle.ad_dir_model.specs.Protection.{protection_run}

-- Each edit may be applied to what those before it made, and all of them make the directory after a run; the
-- numbers are those of the objects that change and of those that are protected. Where the directory is the one from
-- before, there is no edit.
pub record MakeRun (dir : Directory) (edits : List Edit) (changed protected : ℕ) : Type 0 where
  pub may : MayApplyAll dir edits
  pub make : all_edited (map edit_seen edits) dir ≡ (protection_run dir).directory
  pub changed_is : changed ≡ (protection_run dir).changed
  pub protected_is : protected ≡ (protection_run dir).protected
  pub nothing : (protection_run dir).directory ≡ dir → edits ≡ []
