use Rattle.std.proofs.lemmas.Result.{on_ok_weaker}
use Rattle.ad_bytes.specs.Numbers.{SpellsBe}
use Rattle.ad_rows_write.proofs.Putting.{puts_then}
use Rattle.ad_rows_write.proofs.writing.put_link.Goals as goal

pub returns : goal.returns
returns c =
    on_ok_weaker c.put4.result (λ second. puts_then (SpellsBe 8) (4) (SpellsBe 4 c.args.number) c.args.into.now.items
    c.put8.new.into.items c.put4.new.into.items (c.in_ok-put8.ensures) second) c.put4.ensures
