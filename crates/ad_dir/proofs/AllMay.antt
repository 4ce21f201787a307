-- Edits of normal bytes may be applied where they may in the directory's model.
use Rattle.std.proofs.Common.{List, [], ◌∷◌, map}
use Rattle.std.specs.List.{AllByRecursion}
use Rattle.ad_dir_objects.specs.declared.edit.Edit.{Edit as EditIn}
use Rattle.ad_dir_objects.specs.Seen.{edit_seen}
use Rattle.ad_dir.specs.Conditions.{HasNormal, May}
use Rattle.ad_dir.specs.Applying.{MayApplyAll}
use Rattle.ad_dir_model.specs.Directory.{Directory, Edit, edited}

abbrev pub MayAll : Directory → List Edit → Type 0
MayAll dir [] = Unit {0}
MayAll dir (edit ∷ edits) = May dir edit × MayAll (edited edit dir) edits

pub may_all : (dir : Directory) (edits : List EditIn) → AllByRecursion HasNormal edits
    → MayAll dir (map edit_seen edits) → MayApplyAll dir edits
may_all dir [] normal may = tt
may_all dir (edit ∷ edits) normal may = (
  record { normal = normal.0; may = may.0 },
  may_all
      (edited (edit_seen edit) dir) edits normal.1 may.1,
)
