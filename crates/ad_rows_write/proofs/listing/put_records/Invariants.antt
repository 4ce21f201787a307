use Rattle.std.proofs.Common.{take}
use Rattle.ad_rows_write.specs.Body.{SpellsRecord}
use Rattle.ad_rows_write.specs.Listing.{Adds, AreRowsAt, counted}
use Rattle.ad_rows_write.proofs.listing.put_records.Given as goal

abbrev pub invariant-loop-i : goal.invariant-loop-i
invariant-loop-i g l = Adds (AreRowsAt 4 SpellsRecord (counted 0 (take l.i l.records))) (g.R.RowList.rows l.fn.into)
    (g.R.RowList.rows l.rows)
