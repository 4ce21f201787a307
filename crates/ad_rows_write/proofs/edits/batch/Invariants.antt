use Rattle.std.proofs.Common.{take, map}
use Rattle.ad_dir_objects.specs.Seen.{edit_seen}
use Rattle.ad_rows_write.specs.Batch.{AreRowsOfEdits}
use Rattle.ad_rows_write.proofs.edits.batch.Given as goal

abbrev pub invariant-loop-edit : goal.invariant-loop-edit
invariant-loop-edit l = AreRowsOfEdits (map edit_seen (take l.edit-index l.edits)) l.batch
