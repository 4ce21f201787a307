-- What inheritance says of an object, and the one rule of writing and marking.
use Rattle.std.specs.Prelude.{◌≡◌, ◌⊎◌, ℕ, zero, suc, nat_lt, Bool, true, ◌==◌, ◌&&◌, if◌then◌else◌, unwrap_or}
use Rattle.std.specs.Prelude.{slice_get, List}
use Rattle.std.specs.List.{list_any}
use Rattle.ad_ids.specs.declared.guid.Guid.{Guid}
use Rattle.ad_sd.specs.declared.parts.Sd.{Sd}
use Rattle.ad_inherit.specs.Whole.{explicit_part, whole}
use Rattle.prop_queue.specs.declared.pending.Pending.{Pending}
use Rattle.prop_queue.specs.Pending.{marked}
use Rattle.ad_schema.specs.declared.line.SchemaRecord.{SchemaRecord}
use Rattle.ad_schema.specs.Attributes.{no_guid}
use Rattle.ad_schema.specs.Classes.{class_guids}
use Rattle.ad_dir_model.specs.Limits.{max_depth}
use Rattle.ad_dir_model.specs.Object.{Object, no_sd}
use Rattle.ad_dir_model.specs.Objects.{object_at, sd_at, put}
use Rattle.ad_dir_model.specs.Tree.{root}
use Rattle.ad_dir_model.specs.SameSd.{same_sd}
use Rattle.ad_dir_model.specs.Directory.{Directory}

-- the GUID of a class, by its place
unfoldable pub guid_at : List SchemaRecord → ℕ → Guid
guid_at schema class = unwrap_or (slice_get (class_guids schema) class) no_guid

-- The descriptor that the object should have: the explicit part of its own, and below the root what the stored
-- descriptor of its parent passes down.
unfoldable pub whole_at : Directory → Object → Sd
whole_at dir o =
    if o.number == root then explicit_part o.sd
    else whole (sd_at dir.objects o.parent) o.sd (guid_at dir.schema o.class)

-- the object has it
abbrev pub IsSettled : Directory → Object → Type 0
IsSettled dir o = o.sd ≡ whole_at dir o

-- ---- from the root, without the pending list and without any stored inherited entry

-- at most so many objects up
unfoldable pub scratch_within : Directory → ℕ → ℕ → Sd
scratch_within dir zero number = no_sd
scratch_within dir (suc levels) number =
    let o = object_at dir.objects number in
    if number == root then explicit_part o.sd
    else whole (scratch_within dir levels o.parent) (explicit_part o.sd) (guid_at dir.schema o.class)

unfoldable pub scratch : Directory → ℕ → Sd
scratch dir number = scratch_within dir (suc max_depth) number

-- ---- the pending list

-- an entry of the parent has its cursor below the child
unfoldable pub covers : List Pending → ℕ → ℕ → Bool
covers pending parent child = list_any (λ entry. entry.parent == parent && nat_lt entry.cursor child) pending

-- the object is settled, or its turn is still to come
abbrev pub IsSettledOrCovered : Directory → Object → Type 0
IsSettledOrCovered dir o = IsSettled dir o ⊎ (covers dir.pending o.parent o.number ≡ true)

-- ---- writing

-- the pending list, with the object marked where its descriptor is another one than before
unfoldable pub marked_if_changed : Sd → Object → List Pending → List Pending
marked_if_changed before o pending = if same_sd before o.sd then pending else marked o.number pending

-- the object put as it stands here, and marked where its descriptor changed
unfoldable pub stored : Directory → Object → Directory
stored dir o = record dir {
  objects = put o dir.objects;
  pending = marked_if_changed (sd_at dir.objects o.number) o dir.pending;
}

-- the object with the descriptor that it should have
abbrev pub settled : Directory → Object → Object
settled dir o = record o { sd = whole_at dir o }

-- The object put with the descriptor that it should have, and marked where that is another one than before. A write
-- of a descriptor, a move and a step are all this.
unfoldable pub written : Directory → Object → Directory
written dir o = stored dir (settled dir o)
