-- What represents what of the directory's model: values, objects, counters and edits.
use Rattle.std.specs.Prelude.{List, map}
use Rattle.ad_schema.specs.declared.info.AttrId.{AttrId}
use Rattle.ad_sd.specs.declared.parts.Sd.{Sd}
use Rattle.ad_sd.specs.SdIn.{sd_in}
use Rattle.ad_dir_objects.specs.declared.object.Stored.{Stored as StoredIn}
use Rattle.ad_dir_objects.specs.declared.object.Stored.TheVariants as stored
use Rattle.ad_dir_objects.specs.declared.object.Object.{Object as ObjectIn}
use Rattle.ad_dir_objects.specs.declared.edit.Meta.{Meta as MetaIn}
use Rattle.ad_dir_objects.specs.declared.edit.Edit.{Edit as EditIn}
use Rattle.ad_dir_objects.specs.declared.edit.Edit.TheVariants as edit
use Rattle.ad_dir_model.specs.Object.{Stored, plain, link, Held, Object}
use Rattle.ad_dir_model.specs.Directory.{Meta, Edit, put_object, remove_object, put_queue, put_meta}

abbrev pub stored_seen : StoredIn → Stored
stored_seen (stored.Plain value) = plain value
stored_seen (stored.Link number) = link number

abbrev pub held_seen : AttrId × List StoredIn → Held
held_seen held = record { attr = held.0.0; values = map stored_seen held.1 }

-- the object with this descriptor
abbrev pub object_seen : ObjectIn → Sd → Object
object_seen o sd = record {
  number = o.number;
  parent = o.parent;
  class = o.class.0;
  name = o.name;
  values
      = map held_seen o.values;
  sd = sd;
}

-- objects with their descriptors
abbrev pub objects_of : List (ObjectIn × Sd) → List Object
objects_of objects = map (λ entry. object_seen entry.0 entry.1) objects

abbrev pub meta_seen : MetaIn → Meta
meta_seen meta = record { next_number = meta.next_number; next_rid = meta.next_rid; suffix = meta.suffix.rdns }

-- The bytes of an edit are the normal bytes of a descriptor.
abbrev pub edit_seen : EditIn → Edit
edit_seen (edit.PutObject o bytes) = put_object (object_seen o (sd_in bytes.items))
edit_seen (edit.RemoveObject number) = remove_object number
edit_seen (edit.PutQueue entries) = put_queue entries.items
edit_seen (edit.PutMeta meta) = put_meta (meta_seen meta)
