use Rattle.std.proofs.lemmas.Result.{on_ok_weaker}
use Rattle.ad_bytes.specs.Numbers.{SpellsBe}
use Rattle.ad_rows_write.proofs.Putting.{puts_then}
use Rattle.ad_rows_write.proofs.writing.PendingPart.put.Goals as goal

pub returns : goal.returns
returns c =
    let entry = c.args.self.now in
    on_ok_weaker c.put4-2.result (puts_then (SpellsBe 4) entry.parent (SpellsBe 4 entry.cursor) c.args.into.now.items
    c.put4.new.into.items c.put4-2.new.into.items c.in_ok-put4.ensures) c.put4-2.ensures
