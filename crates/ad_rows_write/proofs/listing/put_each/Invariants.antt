use Rattle.std.proofs.Common.{take}
use Rattle.ad_rows_write.specs.Body.{SpellsObject}
use Rattle.ad_rows_write.specs.Listing.{Adds, AreRowsAt, objects_at}
use Rattle.ad_rows_write.proofs.listing.put_each.Given as goal

abbrev pub invariant-loop-number : goal.invariant-loop-number
invariant-loop-number g l = Adds (AreRowsAt 1 SpellsObject (objects_at l.dir.objects (take l.number-index l.live)))
    (g.R.RowList.rows l.fn.into) (g.R.RowList.rows l.rows)
