-- What each edit makes of the fields is what it makes of the directory.
use Rattle.std.proofs.Common.{Option, Some, None, Result, Ok, Err, unwrap_or, ◌≡◌, ℕ, List, [], refl, ap, ◌∙◌}
use Rattle.std.specs.Prelude.{OnOk, option_and_then}
use Rattle.ad_ids.specs.SidValue.{SidValue}
use Rattle.ad_value.specs.Value.{Value}
use Rattle.ad_value.specs.ValueOf.{sid_of}
use Rattle.ad_dir_model.specs.Identity.{sid_in, first_of_attr, self_sid}
use Rattle.ad_dir_model.specs.Attributes.{object_sid}
use Rattle.prop_queue.specs.declared.pending.Pending.{Pending}
use Rattle.ad_schema.specs.declared.line.SchemaRecord.{SchemaRecord}
use Rattle.ad_dir_objects.specs.declared.edit.Meta.{Meta as MetaIn}
use Rattle.ad_dir_objects.specs.Seen.{meta_seen}
use Rattle.ad_dir_table.specs.Entry.{Entry, objects_in}
use Rattle.ad_dir.specs.Kept.{dir_seen}
use Rattle.ad_dir_model.specs.Object.{Object, no_object, stored_in, first_plain}
use Rattle.ad_dir_model.specs.Objects.{object_of, object_at, put, removed}
use Rattle.ad_dir_model.specs.Directory.{Directory, put_object, remove_object, put_queue, put_meta, edited}
use Rattle.ad_dir_model.specs.Directory.{with_objects, with_pending, with_meta}

pub where_ok : {A E : Type 0} {P Q : Type 0} (r : Result A E) → (P → Q) → OnOk r P → OnOk r Q
where_ok (Ok x) f p = f p
where_ok (Err e) f p = tt

module _ (schema : List SchemaRecord) (entries : List Entry) (pending : List Pending) (meta : MetaIn)
    (dir : Directory) (is : dir_seen schema entries pending meta ≡ dir) where
  pub put_edited : (o : Object) (new : List Entry) → objects_in new ≡ put o (objects_in entries)
      → dir_seen schema new pending meta ≡ edited (put_object o) dir
  unfolding edited
  put_edited o new e =
      ap (λ (os : List Object). with_objects os (dir_seen schema entries pending meta)) e
      ∙ ap (λ (d : Directory). with_objects (put o d.objects) d) is

  pub remove_edited : (number : ℕ) (new : List Entry) → objects_in new ≡ removed number (objects_in entries)
      → dir_seen schema new pending meta ≡ edited (remove_object number) dir
  unfolding edited
  remove_edited number new e =
      ap (λ (os : List Object). with_objects os (dir_seen schema entries pending meta)) e
      ∙ ap (λ (d : Directory). with_objects (removed number d.objects) d) is

  pub queue_edited : (new : List Pending) → dir_seen schema entries new meta ≡ edited (put_queue new) dir
  unfolding edited
  queue_edited new = ap (λ (d : Directory). with_pending new d) is

  pub meta_edited : (new : MetaIn) → dir_seen schema entries pending new ≡ edited (put_meta (meta_seen new)) dir
  unfolding edited
  meta_edited new = ap (λ (d : Directory). with_meta (meta_seen new) d) is

-- ---- the identifier of an object

no_sid_in : (schema : List SchemaRecord) → None ≡ sid_in schema no_object
unfolding sid_in first_of_attr stored_in
no_sid_in schema = by_attr (object_sid schema)
  where
    by_attr : (attr : Option ℕ) → None ≡ option_and_then (λ (value : Value). sid_of value.shown)
        (option_and_then (λ (place : ℕ). first_plain (stored_in [] place)) attr)
    by_attr None = refl
    by_attr (Some place) = refl

-- the identifier of an object that is found, or of none
pub sid_told : (dir : Directory) (number : ℕ) (sid : Option SidValue) → sid ≡ option_and_then (sid_in dir.schema)
    (object_of dir.objects number) → sid ≡ self_sid dir number
unfolding object_at
sid_told dir number sid is = is ∙ by_found (object_of dir.objects number)
  where
    by_found : (found : Option Object) → option_and_then (sid_in dir.schema) found
        ≡ sid_in dir.schema (unwrap_or found no_object)
    by_found None = no_sid_in dir.schema
    by_found (Some o) = refl
