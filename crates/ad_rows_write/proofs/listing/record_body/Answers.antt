use Rattle.std.proofs.Common.{List, ℕ, subst}
use Rattle.ad_rows_write.specs.Body.{SpellsRecord}
use Rattle.ad_rows_write.specs.Appends.{Appends}
use Rattle.ad_rows_write.proofs.Putting.{puts_all}
use Rattle.ad_rows_write.proofs.listing.record_body.Goals as goal

pub returns : goal.returns
returns c = puts_all (SpellsRecord c.args.«record».now) c.put_record.new.into.items
    (subst (λ (l : List ℕ). Appends (SpellsRecord c.args.«record».now) l c.put_record.new.into.items)
    c.new-body.ensures.items c.in_ok-put_record.ensures)
