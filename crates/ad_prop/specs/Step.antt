-- What the edits of a step are.
use Rattle.std.specs.Prelude.{◌≡◌, ◌≢◌, true, List, [], ◌∷◌, map}
use Rattle.prop_queue.specs.declared.pending.Pending.{Pending}
use Rattle.ad_dir_objects.specs.declared.edit.Edit.{Edit}
use Rattle.ad_dir.specs.Applying.{MayApplyAll}
use Rattle.ad_dir_objects.specs.Seen.{edit_seen}
use Rattle.ad_dir.specs.Conditions.{MayPut, with_sd}
use Rattle.ad_dir_model.specs.Objects.{is_live, object_at}
use Rattle.ad_dir_model.specs.Directory.{Directory, Edit as EditOf, put_object, with_pending, all_edited}
use Rattle.ad_dir_model.specs.Steps.{step}
use Rattle.ad_prop.specs.declared.turning.Turn.{Turn}
use Rattle.ad_prop.specs.declared.turning.Turn.TheVariants as turn

-- Something is pending, each edit may be applied to what those before it made, and all of them make the directory
-- after one step.
pub record MakeStep (dir : Directory) (edits : List Edit) : Type 0 where
  pub pending : dir.pending ≢ []
  pub may : MayApplyAll dir edits
  pub make : all_edited (map edit_seen edits) dir ≡ step dir

-- The same where the pending list is kept beside the directory, whatever list that has itself: with the list as it
-- is then, the edits make the directory after one step.
pub record MakeStepBeside (dir : Directory) (old new : List Pending) (edits : List Edit) : Type 0 where
  pub pending : old ≢ []
  pub may : MayApplyAll dir edits
  pub make : with_pending new (all_edited (map edit_seen edits) dir) ≡ step (with_pending old dir)

-- a live object gets a descriptor, or nothing is edited
abbrev pub turn_edits : Directory → Turn → List EditOf
turn_edits dir (turn.Child number sd) = put_object (with_sd sd (object_at dir.objects number)) ∷ []
turn_edits dir turn.Head = []

abbrev pub MayTake : Directory → Turn → Type 0
MayTake dir (turn.Child number sd) = (is_live dir.objects number ≡ true)
    × MayPut dir (with_sd sd (object_at dir.objects number))
MayTake dir turn.Head = Unit {0}

-- Something is pending, and what the turn makes of the objects may be made and is, with the list as it is then, the
-- directory after one step.
pub record TakesTurn (dir : Directory) (old new : List Pending) (taken : Turn) : Type 0 where
  pub pending : old ≢ []
  pub may : MayTake dir taken
  pub make : with_pending new (all_edited (turn_edits dir taken) dir) ≡ step (with_pending old dir)
