-- A directory, and the edits that change it one at a time.
use Rattle.std.specs.Prelude.{ℕ, List, [], ◌∷◌}
use Rattle.ad_dn.specs.declared.rdn.Rdn.{Rdn}
use Rattle.prop_queue.specs.declared.pending.Pending.{Pending}
use Rattle.ad_schema.specs.declared.line.SchemaRecord.{SchemaRecord}
use Rattle.ad_dir_model.specs.Object.{Object}
use Rattle.ad_dir_model.specs.Objects.{put, removed, parent_at}

-- The number of the next object, the last part of the next identifier, and the name above the root: the parts of the
-- root's name after its first one.
pub record Meta : Type 0 where
  pub next_number : ℕ
  pub next_rid : ℕ
  pub suffix : List Rdn

-- The objects stand by rising number. The pending list has the parents whose children are still to take over what
-- they pass down. The schema is the list of its records.
pub record Directory : Type 0 where
  pub schema : List SchemaRecord
  pub objects : List Object
  pub pending : List Pending
  pub meta : Meta

-- the parent of each object
abbrev pub parents : Directory → ℕ → ℕ
parents dir = parent_at dir.objects

abbrev pub with_objects : List Object → Directory → Directory
with_objects objects dir = record dir { objects = objects }

abbrev pub with_pending : List Pending → Directory → Directory
with_pending pending dir = record dir { pending = pending }

abbrev pub with_meta : Meta → Directory → Directory
with_meta meta dir = record dir { meta = meta }

-- ---- edits

-- one object put, one removed, the whole pending list, and the counters with the suffix
pub data Edit : Type 0 where
  put_object : Object → Edit
  remove_object : ℕ → Edit
  put_queue : List Pending → Edit
  put_meta : Meta → Edit

-- what one edit makes of a directory, and nothing else changes
unfoldable pub edited : Edit → Directory → Directory
edited (put_object o) dir = with_objects (put o dir.objects) dir
edited (remove_object number) dir = with_objects (removed number dir.objects) dir
edited (put_queue pending) dir = with_pending pending dir
edited (put_meta meta) dir = with_meta meta dir

-- what the edits of a list make of it, in their order
unfoldable pub all_edited : List Edit → Directory → Directory
all_edited [] dir = dir
all_edited (edit ∷ edits) dir = all_edited edits (edited edit dir)
