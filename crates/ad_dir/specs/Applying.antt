-- Edits that are applied one after the other.
use Rattle.std.specs.Prelude.{List, [], ◌∷◌}
use Rattle.ad_dir_objects.specs.declared.edit.Edit.{Edit}
use Rattle.ad_dir.specs.Conditions.{MayApply}
use Rattle.ad_dir_objects.specs.Seen.{edit_seen}
use Rattle.ad_dir_model.specs.Directory.{Directory, edited}

-- each edit may be applied to what those before it made
abbrev pub MayApplyAll : Directory → List Edit → Type 0
MayApplyAll dir [] = Unit {0}
MayApplyAll dir (edit ∷ edits) = MayApply dir edit × MayApplyAll (edited (edit_seen edit) dir) edits
