-- What is said on the way to a plan.
use Rattle.std.specs.Prelude.{◌≡◌, ◌⊎◌, Bool, ◌==◌, ◌&&◌, Option, Some, None, List, [], map}
use Rattle.std.specs.List.{AllByRecursion}
use Rattle.std.specs.Str.{bytes_eq}
use Rattle.ad_sd.specs.declared.parts.Sd.{Sd}
use Rattle.ad_sd.specs.declared.parts.SdParts.{SdParts}
use Rattle.ad_dir_objects.specs.declared.edit.Edit.{Edit as EditIn}
use Rattle.ad_dir.specs.Conditions.{HasNormal}
use Rattle.ad_dir_objects.specs.declared.object.Object.{Object as ObjectIn}
use Rattle.ad_dir_objects.specs.Seen.{edit_seen, object_seen}
use Rattle.ad_dir_model.specs.Object.{Held, Object}
use Rattle.ad_dir_model.specs.Directory.{Directory, Edit, all_edited}
use Rattle.ad_dir_model.specs.Edits.{change_edits, write_edits}
use Rattle.ad_change.specs.Modifying.{with_parts}

-- the object with these values
abbrev pub IsWithValues : ObjectIn → ObjectIn → List Held → Type 0
IsWithValues before after values = (sd : Sd) → object_seen after sd ≡ record (object_seen before sd) { values = values }

-- two objects have one number, parent, class and naming value
abbrev pub same_place : ObjectIn → ObjectIn → Bool
same_place a b = a.number == b.number && (a.parent == b.parent && (a.class.0 == b.class.0 && bytes_eq a.name b.name))

-- ---- edits

-- these edits, or none where they would leave the directory as it is
pub record AreNeeded (dir : Directory) (seen : List Edit) (edits : List EditIn) : Type 0 where
  pub either : (map edit_seen edits ≡ seen) ⊎ (edits ≡ [])
  pub make : all_edited (map edit_seen edits) dir ≡ all_edited seen dir
  pub nothing : all_edited seen dir ≡ dir → edits ≡ []
  pub normal : AllByRecursion HasNormal edits

-- those of a Modify of an object with its values and the descriptor that it has
abbrev pub modify_edits : Directory → Object → Option SdParts → List Edit
modify_edits dir o None = change_edits o
modify_edits dir o (Some parts) = write_edits dir (record o { sd = with_parts parts o.sd })
