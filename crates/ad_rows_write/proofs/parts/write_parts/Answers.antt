use Rattle.std.proofs.Common.{[], List, subst}
use Rattle.std.proofs.lemmas.Result.{IfOk-weaker}
use Rattle.ad_schema.specs.declared.line.SchemaRecord.{SchemaRecord}
use Rattle.ad_dir_model.specs.Objects.{numbers}
use Rattle.ad_dir_objects.specs.Seen.{meta_seen, objects_of}
use Rattle.ad_rows_sound.specs.Parts.{dir_of}
use Rattle.ad_rows_write.specs.Body.{SpellsObject}
use Rattle.ad_rows_write.specs.Listing.{AreAllOf, AreRowsAt, objects_at}
use Rattle.ad_rows_write.proofs.InOrder.{adds_all}
use Rattle.ad_rows_write.proofs.Written.{put_by_number}
use Rattle.ad_rows_write.proofs.parts.write_parts.Goals as goal

pub returns : goal.returns
returns c =
    let os = objects_of c.args.objects.items in
    let meta = meta_seen c.args.meta.now in
    let none = c.in_ok-none.none in
    let with_objects = c.in_ok-with_objects.with_objects in
    let objects = adds_all (AreRowsAt 1 SpellsObject (objects_at os (numbers os))) none with_objects
    c.in_ok-none.ensures (put_by_number os none with_objects c.requires c.in_ok-with_objects.ensures) in
    let all = IfOk-weaker c.put_rest.result _ (λ rows. AreAllOf (dir_of c.args.schema.now os [] meta) rows)
    (λ rows stand. subst (λ (s : List SchemaRecord). AreAllOf (dir_of s os [] meta) rows) c.records.ensures
    (stand os c.requires objects)) c.put_rest.ensures in
    record {
      rows = IfOk-weaker c.put_rest.result _ _ (λ rows are. are.0) all;
      listed = IfOk-weaker c.put_rest.result _ _ (λ rows are. are.1) all;
    }
