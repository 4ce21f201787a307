use Rattle.std.proofs.Common.{List, sym, subst}
use Rattle.row_store.specs.declared.row.Row.{Row}
use Rattle.ad_dir_model.specs.Directory.{put_object}
use Rattle.ad_dir_objects.specs.Seen.{object_seen}
use Rattle.ad_rows_write.specs.Batch.{AreRowsOfEdits}
use Rattle.ad_rows_write.specs.Noted.{rows_noted}
use Rattle.ad_rows_write.proofs.Noted.{edits_more, on_ok_two}
use Rattle.ad_rows_write.proofs.noting.Batch.note_object.Goals as goal

pub returns-clause-noted : goal.returns-clause-noted
returns-clause-noted c =
    let old = rows_noted c.self.inside.noted.entries in
    let new = rows_noted c.put.new.noted.entries in
    on_ok_two c.put.result (λ found rise edits before. edits_more edits
    (put_object (object_seen c.args.object.now c.args.sd.now)) c.in_ok-row.row
    old new c.in_ok-row.ensures rise found
    (subst (λ (rows : List Row). AreRowsOfEdits edits rows) (sym c.self.view_is) before)) c.put.ensures.rows
    c.put.ensures.rise
