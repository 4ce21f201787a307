-- What an edit asks of the directory that it changes.
use Rattle.std.specs.Prelude.{◌≡◌, ◌≢◌, ℕ, ◌-◌, ◌^◌, ◌<◌, ◌≤◌, true, false, Some, List, map}
use Rattle.std.specs.List.{AllByRecursion}
use Rattle.prop_queue.specs.declared.pending.Pending.{Pending}
use Rattle.prop_queue.specs.Pending.{is_pending, AreDistinct}
use Rattle.ad_sd.specs.declared.parts.Sd.{Sd}
use Rattle.ad_sd.specs.Normal.{SpellsNormal}
use Rattle.ad_sd.specs.SdIn.{sd_in}
use Rattle.ad_dir_objects.specs.declared.edit.Edit.{Edit as EditIn}
use Rattle.ad_dir_objects.specs.declared.edit.Edit.TheVariants as edit
use Rattle.ad_dir_objects.specs.Seen.{edit_seen}
use Rattle.ad_dir_model.specs.Object.{Object, names, Held}
use Rattle.ad_dir_model.specs.Objects.{object_of, is_live, parent_at, put}
use Rattle.ad_dir_model.specs.Tree.{root, IsPlaced}
use Rattle.ad_dir_model.specs.Directory.{Directory, Edit, put_object, remove_object, put_queue, put_meta}
use Rattle.ad_dir_model.specs.Conditions.{Fits}

-- the object with another descriptor, and nothing else of it changed
abbrev pub with_sd : Sd → Object → Object
with_sd sd o = record o { sd = sd }

-- the bytes are the normal bytes of the descriptor that they are read as
abbrev pub IsNormal : List ℕ → Type 0
IsNormal bytes = SpellsNormal (sd_in bytes) bytes

-- An object that may be put: its number is from 1 to 2^32 - 2, its content is of the schema, no sibling has its name
-- and no other object its identifier, and its links name live objects or itself. The root has no parent. Any other
-- object has a live one, which is neither the object nor below it, and no object gets too deep.
pub record MayPut (dir : Directory) (o : Object) : Type 0 where
  pub some : 1 ≤ o.number
  pub fits_number : o.number < 2 ^ 32 - 1
  pub fits : Fits dir o
  pub no_parent : o.number ≡ root → o.parent ≡ 0
  pub parent_live : o.number ≢ root → is_live dir.objects o.parent ≡ true
  pub placed : o.number ≢ root → (number : ℕ) → is_live (put o dir.objects) number ≡ true
      → IsPlaced (parent_at (put o dir.objects)) number

-- An object that may go: it is live and isn't pending, and no other one has it as its parent or links to it.
pub record MayRemove (dir : Directory) (number : ℕ) : Type 0 where
  pub live : is_live dir.objects number ≡ true
  pub idle : is_pending number dir.pending ≡ false
  pub no_child : (other : ℕ) (o : Object) → object_of dir.objects other ≡ Some o → other ≢ number → o.parent ≢ number
  pub no_link : (other : ℕ) (o : Object) → object_of dir.objects other ≡ Some o → other ≢ number
      → AllByRecursion (λ (held : Held). names number held.values ≡ false) o.values

-- parents that are live, each once
pub record MayPend (dir : Directory) (pending : List Pending) : Type 0 where
  pub live : AllByRecursion (λ (entry : Pending). is_live dir.objects entry.parent ≡ true) pending
  pub distinct : AreDistinct pending

abbrev pub May : Directory → Edit → Type 0
May dir (put_object o) = MayPut dir o
May dir (remove_object number) = MayRemove dir number
May dir (put_queue pending) = MayPend dir pending
May dir (put_meta meta) = Unit {0}

-- the bytes of an edit are a descriptor's normal bytes
abbrev pub HasNormal : EditIn → Type 0
HasNormal (edit.PutObject o bytes) = IsNormal bytes.items
HasNormal _ = Unit {0}

pub record MayApply (dir : Directory) (edit : EditIn) : Type 0 where
  pub normal : HasNormal edit
  pub may : May dir (edit_seen edit)

-- the edits are these, and the bytes of descriptors are normal
pub record AreEdits (seen : List Edit) (edits : List EditIn) : Type 0 where
  pub are : map edit_seen edits ≡ seen
  pub normal : AllByRecursion HasNormal edits
