-- A child whose turn it is, and what edits are in the directory's model.
use Rattle.std.specs.Prelude.{◌≡◌, ◌≢◌, ℕ, ◌<◌, true, List, [], ◌∷◌, ◌++◌, length}
use Rattle.ad_schema.specs.Classes.{classes_of}
use Rattle.prop_queue.specs.declared.pending.Pending.{Pending}
use Rattle.ad_dir_objects.specs.declared.edit.Edit.{Edit as EditIn}
use Rattle.ad_dir.specs.Conditions.{HasNormal}
use Rattle.ad_dir_objects.specs.Seen.{edit_seen}
use Rattle.ad_dir_model.specs.Objects.{object_at, is_live, parent_at}
use Rattle.ad_dir_model.specs.Tree.{root}
use Rattle.ad_dir_model.specs.Directory.{Directory, put_queue}
use Rattle.ad_dir_model.specs.Inheritance.{whole_at}
use Rattle.ad_prop.specs.declared.turning.Turn.{Turn}
use Rattle.ad_prop.specs.declared.turning.Turn.TheVariants as turn

-- It is a live object below the root, with a live parent and a class of the schema.
pub record IsTurn (dir : Directory) (child : ℕ) : Type 0 where
  pub live : is_live dir.objects child ≡ true
  pub below : child ≢ root
  pub parent_live : is_live dir.objects (parent_at dir.objects child) ≡ true
  pub class : (object_at dir.objects child).class < length (classes_of dir.schema)

-- the edits with one more, that of the list
abbrev pub AreAllEdits : List EditIn → List Pending → List EditIn → Type 0
AreAllEdits edits queue all = (last : EditIn) × (all ≡ edits ++ last ∷ []) × (edit_seen last ≡ put_queue queue)
    × HasNormal last

-- the child gets the descriptor that it should have
abbrev pub IsGiven : Directory → ℕ → Turn → Type 0
IsGiven dir child taken = taken ≡ turn.Child child (whole_at dir (object_at dir.objects child))
