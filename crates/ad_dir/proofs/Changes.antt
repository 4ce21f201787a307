-- The fields after an edit stand for objects that stand.
use Rattle.std.proofs.Common.{◌≡◌, ℕ, List, Result, Ok, Err, sym, subst}
use Rattle.std.specs.Prelude.{OnOk, OnErr}
use Rattle.prop_queue.specs.declared.pending.Pending.{Pending}
use Rattle.ad_schema.specs.declared.line.SchemaRecord.{SchemaRecord}
use Rattle.ad_dir_objects.specs.declared.edit.Meta.{Meta as MetaIn}
use Rattle.ad_dir_table.specs.Entry.{Entry, objects_in}
use Rattle.ad_dir.specs.Kept.{dir_seen}
use Rattle.ad_dir.specs.Standing.{AreStanding}
use Rattle.ad_dir_table.specs.Indexed.{HasOwnKeys}
use Rattle.ad_dir.specs.Conditions.{MayPut, MayRemove}
use Rattle.ad_dir_model.specs.Object.{Object}
use Rattle.ad_dir_model.specs.Objects.{put, removed}
use Rattle.ad_dir_model.specs.Directory.{Directory}
use Rattle.ad_dir.proofs.StandingLaws.{put_stands, removed_stand}

module _ (schema : List SchemaRecord) (entries : List Entry) (pending : List Pending) (meta : MetaIn)
    (dir : Directory) (is : dir_seen schema entries pending meta ≡ dir) where
  pub removed_standing : (number : ℕ) (new : List Entry) → objects_in new ≡ removed number (objects_in entries)
      → AreStanding schema (objects_in entries) → MayRemove dir number → AreStanding schema (objects_in new)
  removed_standing number new seen stand may =
      subst (AreStanding schema) (sym seen)
      (removed_stand (dir_seen schema entries pending meta) number stand
      (subst (λ (d : Directory). MayRemove d number) (sym is) may))

  pub put_standing : (o : Object) → AreStanding schema (objects_in entries) → MayPut dir o
      → AreStanding schema (put o (objects_in entries))
  put_standing o stand may = put_stands (dir_seen schema entries pending meta) o stand
      (subst (λ (d : Directory). MayPut d o) (sym is) may)

  pub own_keys : (o : Object) → MayPut dir o → HasOwnKeys schema (objects_in entries) o
  own_keys o may =
      let here = subst (λ (d : Directory). MayPut d o) (sym is) may in
      record { name = here.fits.own_name; sid = here.fits.own_sid }

-- whether the put went well or not
pub either_stands : {A E : Type 0} (r : Result A E) (schema : List SchemaRecord) (before after : List Entry)
    (o : Object) → OnOk r (objects_in after ≡ put o (objects_in before)) → OnErr r (after ≡ before)
    → AreStanding schema (objects_in before) → AreStanding schema (put o (objects_in before))
    → AreStanding schema (objects_in after)
either_stands (Ok x) schema before after o ok err old new = subst (AreStanding schema) (sym ok) new
either_stands (Err e) schema before after o ok err old new
    = subst (λ (entries : List Entry). AreStanding schema (objects_in entries)) (sym err) old
