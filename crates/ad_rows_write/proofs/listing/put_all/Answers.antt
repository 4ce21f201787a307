use Rattle.std.proofs.Common.{◌≡◌, ◌∙◌, subst}
use Rattle.std.proofs.lemmas.Result.{IfOk-weaker}
use Rattle.ad_dir_model.specs.Directory.{Directory}
use Rattle.ad_dir_model.specs.Objects.{numbers}
use Rattle.ad_dir_objects.specs.Seen.{meta_seen}
use Rattle.ad_rows_sound.specs.Parts.{dir_of}
use Rattle.ad_rows_write.specs.Body.{SpellsObject}
use Rattle.ad_rows_write.specs.Listing.{AreAllOf, AreRowsAt, objects_at}
use Rattle.ad_rows_write.proofs.InOrder.{adds_all}
use Rattle.ad_rows_write.proofs.listing.put_all.Goals as goal

pub returns : goal.returns
returns g c =
    let dir = c.args.dir.now in
    let rows = g.R.RowList.rows in
    let objects = adds_all (AreRowsAt 1 SpellsObject (objects_at dir.objects (numbers dir.objects)))
    (rows c.args.none) (rows c.in_ok-objects.objects) c.requires c.in_ok-objects.ensures in
    let pending = c.as_slice.ensures.value ∙ c.in_ok-pending.ensures ∙ c.queue.ensures in
    let records = c.records.ensures ∙ c.schema.ensures in
    let same : dir_of c.records.result.now dir.objects c.as_slice.result.now (meta_seen c.meta.result.now) ≡ dir
    = λ i. dir_of (records i) dir.objects (pending i) (c.meta.ensures i) in
    let all = IfOk-weaker c.put_rest.result _ (λ put. AreAllOf dir (rows put))
    (λ put stand. subst (λ (d : Directory). AreAllOf d (rows put)) same
    (stand dir.objects c.invariants.ensures.rise objects)) c.put_rest.ensures in
    record {
      rows = IfOk-weaker c.put_rest.result _ _ (λ put are. are.0) all;
      listed = IfOk-weaker c.put_rest.result _ _ (λ put are. are.1) all;
    }
