-- What the code decided, against what is to be decided.
use Rattle.std.specs.Prelude.{◌≡◌, false, MatchOption, List, [], map}
use Rattle.ad_dir_objects.specs.declared.edit.Edit.{Edit}
use Rattle.ad_dir.specs.Applying.{MayApplyAll}
use Rattle.ad_dir_objects.specs.Seen.{edit_seen}
use Rattle.ad_dir_model.specs.Directory.{Directory, all_edited}
use Rattle.ad_dir_model.specs.Protection.{protection_run}
use Rattle.ad_dir_model.specs.Soundness.{IsSound}
use Rattle.ad_engine_answer.specs.declared.decided.Decided.{Decided}
use Rattle.ad_engine_answer.specs.Output.{counts}
use Rattle.ad_engine_answer.specs.Messages.{Decision}

-- Each edit may be applied to what those before it made, and all of them make this directory, which is sound. Where
-- it is the one from before, there is no edit.
pub record AreEditsTo (dir : Directory) (edits : List Edit) (after : Directory) : Type 0 where
  pub may : MayApplyAll dir edits
  pub make : all_edited (map edit_seen edits) dir ≡ after
  pub sound : IsSound after
  pub nothing : after ≡ dir → edits ≡ []

-- The reply is this, and the edits make the change; where there is none there is no edit.
pub record IsDecided (dir : Directory) (d : Decision) (decided : Decided) : Type 0 where
  pub reply : decided.reply ≡ d.reply
  pub edits : MatchOption d.change (decided.edits ≡ []) (AreEditsTo dir decided.edits)
  pub drops : decided.drops ≡ d.drops

-- The two numbers are those of a protection run, whose directory the edits make.
pub record IsRun (dir : Directory) (decided : Decided) : Type 0 where
  pub reply : decided.reply ≡ counts (protection_run dir).changed (protection_run dir).protected
  pub edits : AreEditsTo dir decided.edits (protection_run dir).directory
  pub drops : decided.drops ≡ false
