use Rattle.std.proofs.lemmas.Result.{IfOk-weaker}
use Rattle.ad_dir_objects.specs.Seen.{meta_seen}
use Rattle.ad_rows_sound.specs.Parts.{dir_of}
use Rattle.ad_rows_write.specs.Body.{SpellsQueue, SpellsMeta}
use Rattle.ad_rows_write.specs.Listing.{IsRowAt}
use Rattle.ad_rows_write.proofs.InOrderWhole.{whole_stands}
use Rattle.ad_rows_write.proofs.listing.put_rest.Goals as goal

pub returns : goal.returns
returns g c =
    let pending = c.args.pending.now in
    let meta = meta_seen c.args.meta.now in
    let rows = g.R.RowList.rows in
    let queue = c.row-queue.ensures in
    let counters = c.row-counters.ensures in
    let is_queue : IsRowAt 2 SpellsQueue (0, pending) c.row-queue.result
    = (queue.0, queue.1, (c.in_ok-queue_body.field-0.items, queue.2, c.in_ok-queue_body.ensures)) in
    let is_meta : IsRowAt 3 SpellsMeta (0, meta) c.row-counters.result
    = (counters.0, counters.1, (c.in_ok-meta_body.field-0.items, counters.2, c.in_ok-meta_body.ensures)) in
    IfOk-weaker c.put_records.result _ _ (λ all last objects rise are.
    whole_stands (dir_of c.args.records.now objects pending meta) c.row-queue.result c.row-counters.result
    (rows c.args.into) (rows c.in_ok-with_queue.with_queue) (rows c.in_ok-with_counters.with_counters) (rows all)
    rise are is_queue c.in_ok-with_queue.ensures is_meta c.in_ok-with_counters.ensures last) c.put_records.ensures
